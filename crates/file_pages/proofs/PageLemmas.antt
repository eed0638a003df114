-- A page made of others, and stored.
use Rattle.std.proofs.Common.{◌≡◌, ◌∙◌, sym, ap, subst, ℕ, ◌<◌, ◌≤◌, List, length, arith, true, IsTrue, Result, Ok, Err, IfErr, IfOk, OnOk}
use Rattle.bucket_page.specs.declared.page.PageKind.{PageKind}
use Rattle.bucket_page.specs.declared.page.PageKind.TheVariants as kinds
use Rattle.bucket_page.specs.Bucket.{Bucket}
use Rattle.bucket_page.specs.Changes.{IsBucketPage, SpellsBucket}
use Rattle.bucket_page.specs.Dividing.{joined}
use Rattle.bucket_page.specs.Reading.{bucket_in, page_in}
use Rattle.bucket_page.specs.Spelling.{Spells}
use Rattle.buffer_pool.proofs.FormLemmas.{page_is as read_is, same_page}
use Rattle.buffer_pool.specs.Pool.{PoolState}
use Rattle.directory.specs.declared.layout.TheConstants.{ROOT_PAGE}
use Rattle.hash_file.specs.Changes.{with_page}
use Rattle.file_pages.specs.declared.fault.FileFault.{FileFault}
use Rattle.file_pages.specs.Buckets.{AreJoinable, IsThere}
use Rattle.file_pages.specs.Fault.{IsDevicesFault}
use Rattle.file_pages.specs.Files.{SpellsFile, IsFilePool, image, store_of}
use Rattle.file_pages.specs.Reads.{OnlyReads}
use Rattle.file_pages.specs.Writes.{IsBucketThere}
use Rattle.hash_file.specs.Store.{Store, bucket_at, bucket_of, is_bucket}
use Rattle.file_pages.proofs.ReadLemmas.{bucket_spelled, fails_after}
use Rattle.file_pages.proofs.StoreLemmas.{page_is as stored_page_is, pages_are}

pub there_is : (images : List (List ℕ)) (page : ℕ) → IsThere page (store_of images) → page < length images
there_is images page there = omega (arith, pages_are images, there.within)

-- what is made of the image's bucket is made of the file's
pub half_is : {old : List ℕ} {was now : Bucket} (r : Result (List ℕ) FileFault) (make : Bucket → Bucket)
    → IfOk r (λ _. IsBucketPage old) → (IsBucketPage old → was ≡ now) → IfOk r (SpellsBucket (make now))
    → IfOk r (SpellsBucket (make was))
half_is (Ok half) make bucket same it = subst (λ (b : Bucket). SpellsBucket (make b) half) (sym (same bucket)) it
half_is (Err fault) make bucket same it = tt

pub half_spells : (r : Result (List ℕ) FileFault) (b : Bucket) → IfOk r (SpellsBucket b)
    → IfOk r (λ half. Spells (page_in half) half)
half_spells (Ok half) b it = same_page (kinds.Bucket b) half it
half_spells (Err fault) b it = tt

-- a page that was made after a read, and stored
pub page_stored : {T E : Type 0} (r : Result T E) (s t v : PoolState) (page : ℕ) (new : List ℕ) (kind : PageKind)
    → IsTrue s.honest → OnlyReads true s t → Spells kind new
    → (IsTrue t.honest → OnOk r (store_of v.images ≡ with_page page (page_in new) (store_of t.images)))
    → OnOk r (store_of v.images ≡ with_page page kind (store_of s.images))
page_stored (Ok value) s t v page new kind honest reads spells stored =
    stored (reads.honest ∙ honest)
    ∙ (λ j. with_page page (read_is kind new spells j) (store_of (reads.images honest j)))
page_stored (Err fault) s t v page new kind honest reads spells stored = tt

-- a bucket that is there is a page that is there
pub there_of : {page : ℕ} {s : Store} → IsBucketThere page s → IsThere page s
there_of there = record { behind = there.behind; within = there.within }

-- why a page that was made after a read is not stored
pub fails_to_store : {T : Type 0} (r : Result T FileFault) (s t v : PoolState) {page : ℕ} → IsTrue s.honest
    → IsFilePool s → OnlyReads true s t → IsThere page (store_of s.images)
    → (IsTrue t.honest → IsFilePool t → IsThere page (store_of t.images) → IfErr r (IsDevicesFault t v))
    → IfErr r (IsDevicesFault s v)
fails_to_store r s t v {page} honest file reads there fault =
    fails_after r s t v honest file reads (λ honest' file'. fault honest' file'
    (subst (λ (images : List (List ℕ)). IsThere page (store_of images)) (sym (reads.images honest)) there))

-- a page that was made of nothing, and stored
pub stored_as : {T E : Type 0} (r : Result T E) (s v : PoolState) (page : ℕ) (new : List ℕ) (kind : PageKind)
    → Spells kind new
    → OnOk r (store_of v.images ≡ with_page page (page_in new) (store_of s.images))
    → OnOk r (store_of v.images ≡ with_page page kind (store_of s.images))
stored_as (Ok value) s v page new kind spells stored =
    stored ∙ ap (λ (p : PageKind). with_page page p (store_of s.images)) (read_is kind new spells)
stored_as (Err fault) s v page new kind spells stored = tt

-- ---- one of two pages that were copied

module _ (images : List (List ℕ)) (page : ℕ) (copy : List ℕ) (is : copy ≡ image images page) (behind : ROOT_PAGE ≤ page)
    (within : page < length images) where
  -- what the copy of a bucket says is what the file has there
  pub copied_was : IsBucketPage copy → bucket_at (store_of images) page ≡ bucket_in copy
  copied_was bucket =
      ap bucket_of (stored_page_is images page behind within ∙ ap page_in (sym is)
      ∙ read_is (kinds.Bucket (bucket_in copy)) copy bucket)

  -- where the file has a bucket there, the copy is a bucket's
  pub copied_bucket : SpellsFile images → IsBucketThere page (store_of images) → IsBucketPage copy
  copied_bucket file there =
      bucket_spelled copy
      (subst (λ (p : List ℕ). Spells (page_in p) p) (sym is) (file.spelled page behind within))
      (ap is_bucket (ap page_in is ∙ sym (stored_page_is images page behind within)) ∙ there.bucket)

-- two buckets that are there
module _ {first second : List ℕ} {left right : Bucket} (left_was : IsBucketPage first → left ≡ bucket_in first)
    (right_was : IsBucketPage second → right ≡ bucket_in second) where
  -- what is made of the copies is made of the file's
  pub joined_is : (r : Result (List ℕ) FileFault) → IfOk r (λ _. IsBucketPage first) → IfOk r (λ _. IsBucketPage second)
      → IfOk r (SpellsBucket (joined (bucket_in first) (bucket_in second))) → IfOk r (SpellsBucket (joined left right))
  joined_is (Ok both) one other it =
      subst (λ (b : Bucket). SpellsBucket (joined left b) both) (sym (right_was other))
      (subst (λ (b : Bucket). SpellsBucket (joined b (bucket_in second)) both) (sym (left_was one)) it)
  joined_is (Err fault) one other it = tt

  -- and they may be joined where those may
  pub joinable_is : IsBucketPage first → IsBucketPage second → AreJoinable left right
      → AreJoinable (bucket_in first) (bucket_in second)
  joinable_is one other it =
      subst (AreJoinable (bucket_in first)) (right_was other)
      (subst (λ (b : Bucket). AreJoinable b right) (left_was one) it)
