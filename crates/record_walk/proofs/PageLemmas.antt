-- A page of a right structure's chain, and a record of its bucket.
use Rattle.std.proofs.Common.{ℕ, ◌≡◌, ◌<◌, ◌≤◌, nat_lt, Bool, true, false, List, [], ◌∷◌, length, map, drop, replicate, Option, Some, None, Ok, refl, sym, ap, subst, ◌∙◌, arith}
use Rattle.std.specs.List.{All, Contains}
use Rattle.std.specs.Prelude.{slice_index_or}
use Rattle.std.proofs.Math.ListN.{get_or-eq_default}
use Rattle.std.proofs.lemmas.Bool.Decides.{nat_tests}
use Rattle.std.proofs.lemmas.List.{get_or_append_left, get_or-replicate, length-replicate}
use Rattle.std.proofs.lemmas.List.Elements.{All-head, All-tail}
use Rattle.bucket_page.specs.declared.page.Malformed.{Malformed}
use Rattle.bucket_page.specs.declared.page.PageKind.{PageKind}
use Rattle.bucket_page.specs.declared.page.PageKind.TheVariants as kinds
use Rattle.bucket_page.specs.Keys.{is_same}
use Rattle.bucket_page.specs.Reading.{answer, fault_of, page_in}
use Rattle.bucket_page.specs.Records.{pair}
use Rattle.bucket_page.proofs.KeyLaws.{same_is}
use Rattle.file_walk.specs.Files.{pages_in, said_by, said_on}
use Rattle.file_walk.specs.Order.{IsRightPageIn, after_reading}
use Rattle.file_walk.specs.Structure.{IsRightStructureIn}
use Rattle.file_walk.proofs.PagesLemmas.{pages_at, pages_length}
use Rattle.hash_file.specs.Store.{bucket_of, has_bucket, is_bucket}
use Rattle.record_walk.specs.LookupWords.{IsLayout, Layout, RecordKey, Pair, bucket_at, file_in, lookup, payload_on, reading}

-- ---- a page of the chain

low_bucket : (l : Layout) (content : List (List ℕ)) (n : ℕ) → n < l.root_page → has_bucket (file_in l content) n ≡ false
unfolding pages_in
low_bucket l content n small =
    let d : PageKind = kinds.Directory [] in
    let some : n < length (replicate l.root_page d) =
    subst (λ m. n < m) (sym (length-replicate l.root_page d)) small in
    ap is_bucket (get_or_append_left (replicate l.root_page d) (map said_by (drop l.root_page content)) (kinds.Free 0) n
    some
    ∙ get_or-replicate l.root_page n d (kinds.Free 0) small)

past_bucket : (l : Layout) → IsLayout l → (content : List (List ℕ)) (n : ℕ) → l.root_page ≤ length content
    → length content ≤ n → has_bucket (file_in l content) n ≡ false
past_bucket l laid content n long past =
    ap is_bucket (get_or-eq_default (pages_in l content) (kinds.Free 0)
    (subst (λ m. m ≤ n) (sym (pages_length l laid content long)) past))

no_fault : (fault : Option Malformed) (stands : Bool) → after_reading fault stands ≡ None → fault ≡ None
no_fault None stands e = refl
no_fault (Some reason) stands e = absurd cc

is_kind : (page : PageKind) → is_bucket page ≡ true → page ≡ kinds.Bucket (bucket_of page)
is_kind (kinds.Bucket b) e = refl
is_kind (kinds.Directory es) e = absurd cc
is_kind (kinds.Tombstone link) e = absurd cc
is_kind (kinds.Free link) e = absurd cc

said_is : (content : List (List ℕ)) (n : ℕ) → said_on content n ≡ page_in (payload_on content n)
unfolding said_by
said_is content n = refl

module _ (l : Layout) (laid : IsLayout l) (content : List (List ℕ)) (ns : List ℕ) (r : IsRightStructureIn l content ns)
    (n : ℕ) (on : Contains ns n) where
  live : has_bucket (file_in l content) n ≡ true
  live = r.chain.buckets n on

  long : l.root_page ≤ length content
  long = let h = r.pages.header in let least = h.in_range.least in let many = h.as_many in omega (arith, least, many)

  behind_root : (b : Bool) → nat_lt n l.root_page ≡ b → l.root_page ≤ n
  behind_root true less = (
      let small : n < l.root_page = grind (arith, nat_tests) in
      let clash : true ≡ false = sym live ∙ low_bucket l content n small in
      absurd cc)
  behind_root false more = grind (arith, nat_tests)

  within_file : (b : Bool) → nat_lt n (length content) ≡ b → n < length content
  within_file true less = grind (arith, nat_tests)
  within_file false more = (
      let past : length content ≤ n = grind (arith, nat_tests) in
      let clash : true ≡ false = sym live ∙ past_bucket l laid content n long past in
      absurd cc)

  pub within : n < length content
  within = within_file (nat_lt n (length content)) refl

  -- its payload is read as the bucket that the file has there
  pub read_as : (payload : List ℕ) → payload ≡ payload_on content n →
      reading payload ≡ Ok (kinds.Bucket (bucket_at (file_in l content) n))
  read_as payload same =
      let behind = behind_root (nat_lt n l.root_page) refl in
      let root = laid.root in
      let right : IsRightPageIn l content n = r.pages.pages n (omega (arith, behind, root)) within in
      let sound : fault_of (payload_on content n) ≡ None = no_fault _ _ right.formed in
      let is : slice_index_or (pages_in l content) n (kinds.Free 0) ≡ page_in (payload_on content n) =
      pages_at l laid content n (kinds.Free 0) behind within ∙ said_is content n in
      ap reading same
      ∙ ap (λ (fault : Option Malformed). answer fault (page_in (payload_on content n))) sound
      ∙ ap (λ (page : PageKind). Ok page) (sym is ∙ is_kind _ live)

-- ---- a record of a bucket

pub looked_up : (P : Pair → Type 0) (key : RecordKey) (value : List ℕ) (ps : List Pair) → All P ps →
    lookup key ps ≡ Some value → P (pair key value)
looked_up P key value [] all h = absurd cc
looked_up P key value (p ∷ ps) all h =
    by_test (is_same p.key key) refl (λ later. looked_up P key value ps (All-tail P p ps all) later)
  where
    by_test : (b : Bool) → is_same p.key key ≡ b → (lookup key ps ≡ Some value → P (pair key value)) →
        P (pair key value)
    by_test true same more =
        let h' : ◌≡◌ {A = Option (List ℕ)} (Some p.value) (Some value) = rw same at h in
        let is : p.value ≡ value = cc in
        let p_is : p ≡ pair key value = λ i. record { key = same_is p.key key same i; value = is i } in
        subst P p_is (All-head P p ps all)
    by_test false other more =
        let h' = rw other at h in
        more h'
