-- A bucket of which one record was written.
use Rattle.std.proofs.Common.{◌≡◌, refl, ◌∙◌, sym, ap, subst, ℕ, ◌<◌, ◌≤◌, List, [], true, Result, Ok, Err, IsErr, OnOk, arith, length, slice_get, slice_set, Some}
use Rattle.std.proofs.lemmas.List.{length-set}
use Rattle.std.proofs.lemmas.Option.{get_or_from_slice_get, slice_get_within}
use Rattle.buffer_pool.specs.Pool.{PoolState}
use Rattle.buffer_pool.proofs.SparedLemmas.{spared_is}
use Rattle.bucket_page.specs.declared.page.PageKind.{PageKind}
use Rattle.bucket_page.specs.declared.page.PageKind.TheVariants as kinds
use Rattle.bucket_page.specs.Bucket.{Bucket}
use Rattle.bucket_page.specs.Changes.{IsBucketPage, Changes}
use Rattle.bucket_page.specs.Reading.{bucket_in, page_in, records_in}
use Rattle.directory.specs.declared.layout.TheConstants.{ROOT_PAGE}
use Rattle.buffer_pool.proofs.FormLemmas.{page_is as read_is}
use Rattle.bucket_page.specs.Spelling.{Spells}
use Rattle.hash_file.specs.Store.{bucket_at, bucket_of, is_bucket}
use Rattle.hash_file.specs.Changes.{RecordWrite, records_after, with_bucket, with_page, write_record}
use Rattle.file_pages.specs.Files.{IsReady, SpellsFile, store_of}
use Rattle.file_pages.specs.Pinning.{IsPinned}
use Rattle.file_pages.specs.Writes.{IsBucketThere, OnlyWrites}
use Rattle.file_pages.proofs.PageLemmas.{copied_was}
use Rattle.file_pages.proofs.StoreLemmas.{pages_are}
use Rattle.file_pages.proofs.ReadLemmas.{bucket_spelled, image_was, page_there, page_was}
use Rattle.file_pages.proofs.WriteLemmas.{file_set, store_set}

-- a bucket on a page that is pinned
module _ (s t : PoolState) (page right : ℕ) (old new : List ℕ) (pinned : IsPinned page s t right)
    (is : slice_get t.images right ≡ Some old) (behind : ROOT_PAGE ≤ page) (bucket : IsBucketPage old) where
  within : page < length s.images
  within = page_there s t page right old pinned is

  -- what it says is what the file has there
  pub bucket_was : s.honest ≡ true → bucket_at (store_of s.images) page ≡ bucket_in old
  bucket_was honest = ap bucket_of (page_was s t page right old pinned is honest behind
      ∙ read_is (kinds.Bucket (bucket_in old)) old bucket)

  -- its records become what the write makes of them
  module _ (w : RecordWrite) (changes : Changes (records_after w) old new) where
    pub keeps_file : SpellsFile s.images → SpellsFile (slice_set s.images page new)
    keeps_file = file_set s.images page new behind within _ changes

    pub record_written : s.honest ≡ true
        → store_of (slice_set s.images page new) ≡ write_record page w (store_of s.images)
    record_written honest =
        store_set s.images page new behind within
        ∙ ap (λ (p : PageKind). with_page page p (store_of s.images))
        (read_is (kinds.Bucket (record (bucket_in old) { records = records_after w (records_in old) })) new changes)
        ∙ ap (λ (b : Bucket). with_bucket page (record b { records = records_after w b.records }) (store_of s.images))
        (sym (bucket_was honest))

-- where the file has a bucket there, the image is a bucket's
pub bucket_there : (s t : PoolState) (page right : ℕ) (old : List ℕ) → IsPinned page s t right
    → slice_get t.images right ≡ Some old → s.honest ≡ true → SpellsFile s.images
    → IsBucketThere page (store_of s.images)
    → IsBucketPage old
bucket_there s t page right old pinned is honest file there =
    bucket_spelled old
    (subst (λ (p : List ℕ). Spells (page_in p) p) (image_was s t page right old pinned is honest)
    (file.spelled page there.behind (page_there s t page right old pinned is)))
    (ap is_bucket (sym (page_was s t page right old pinned is honest there.behind)) ∙ there.bucket)

-- a bucket of a file is there to be pinned
pub there_within : (images : List (List ℕ)) (page : ℕ) → IsBucketThere page (store_of images) → page < length images
there_within images page there = omega (arith, pages_are images, there.within)

-- what does not fail is done
pub put_fits : {T E : Type 0} {P : Type 0} (r : Result T E) → OnOk r P → (IsErr r → ⊥) → P
put_fits (Ok value) it fits = it
put_fits (Err fault) it fits = absurd (fits refl)

-- ---- a bucket on a page that is in a frame

module _ (s : PoolState) (page : ℕ) (old new : List ℕ) (here : slice_get s.images page ≡ Some old)
    (behind : ROOT_PAGE ≤ page) (bucket : IsBucketPage old) (w : RecordWrite)
    (changes : Changes (records_after w) old new) where
  inside : page < length s.images
  inside = slice_get_within s.images page old here

  -- what the file becomes
  pub stored_there : store_of (slice_set s.images page new) ≡ write_record page w (store_of s.images)
  stored_there =
      store_set s.images page new behind inside
      ∙ ap (λ (p : PageKind). with_page page p (store_of s.images))
      (read_is (kinds.Bucket (record (bucket_in old) { records = records_after w (records_in old) })) new changes)
      ∙ ap (λ (b : Bucket). with_bucket page (record b { records = records_after w b.records }) (store_of s.images))
      (sym (copied_was s.images page old (sym (get_or_from_slice_get s.images page old [] here)) behind inside bucket))

  -- and the pool
  pub writes_there : (v : PoolState) → IsReady s → v ≡ record s { images = slice_set s.images page new }
      → OnlyWrites true s v
  writes_there v ready is = subst (OnlyWrites true s) (sym is) (record {
    ready = record { rest = ready.rest; frames = ready.frames };
    honest = refl;
    later = omega arith;
    stored = spared_is s (record s { images = slice_set s.images page new }) refl refl;
    as_many = length-set s.images page new;
    file = λ honest done f. record {
      file = file_set s.images page new behind inside _ changes f.file;
      sealed = λ n within. f.sealed n (subst (λ m. n < m) (length-set s.images page new) within);
    };
  })
