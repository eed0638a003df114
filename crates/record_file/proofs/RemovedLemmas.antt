-- The bucket from which a record was taken, and why no merge can be made behind it.
use Rattle.std.proofs.Common.{◌≡◌, refl, sym, ap, ◌∙◌, subst, ℕ, ◌+◌, ◌-◌, ◌≤◌, ◌<◌, Bool, true, false, List, length, arith, inl, inr}
use Rattle.std.proofs.lemmas.Bool.{cases_eq, cases_lt, le-leb}
use Rattle.std.specs.List.{Contains}
use Rattle.bucket_page.specs.declared.layout.TheConstants.{RECORD_HEAD_BYTES}
use Rattle.bucket_page.specs.declared.page.PageKind.{PageKind}
use Rattle.bucket_page.specs.declared.page.PageKind.TheVariants as kinds
use Rattle.bucket_page.specs.Bucket.{Bucket}
use Rattle.bucket_page.specs.Changes.{removed}
use Rattle.hash_file.specs.Store.{Store, page_at, bucket_at, bucket_of, is_bucket, range_at}
use Rattle.hash_file.specs.Chain.{IsBucketOf}
use Rattle.hash_file.specs.Changes.{write_record, with_bucket}
use Rattle.hash_file.proofs.Frames.{page_other, page_same}
use Rattle.directory.specs.Ranges.{Covers}
use Rattle.step_rules.specs.declared.kind.TheConstants.{MERGED_BYTES}
use Rattle.step_rules.specs.Rooms.{TurnsAway, IsWhole, IsLarge}
use Rattle.step_rules.specs.Pages.{used_on}
use Rattle.step_rules.specs.Structure.{bare}
use Rattle.step_rules.specs.Words.{chain}
use Rattle.step_rules.proofs.StructureLemmas.{chain-same}
use Rattle.record_file.specs.Words.{RecordKey, Pair, record_bytes, HasValueOf, Remove, records_at, World}
use Rattle.record_file.specs.BucketAccesses.{is_due}
use Rattle.record_file.specs.BucketSteps.{TurnsAwayIn}
use Rattle.record_file.specs.declared.bucket_access.BucketStage.TheVariants.{Searching, Written}
use Rattle.record_file.proofs.ValueLemmas.{used_removed}

bare_with : (p : PageKind) (records : List Pair) → is_bucket p ≡ true →
    bare (kinds.Bucket (record (bucket_of p) { records = records })) ≡ bare p
bare_with (kinds.Bucket b) records is = refl
bare_with (kinds.Directory es) records is = absurd cc
bare_with (kinds.Tombstone link) records is = absurd cc
bare_with (kinds.Free link) records is = absurd cc

module _ (s : Store) (page : ℕ) (key : RecordKey) (within : page < length s.pages)
    (bucket : is_bucket (page_at s page) ≡ true) where
  abbrev left : Bucket
  left = record (bucket_at s page) { records = removed key (records_at s page) }

  abbrev t : Store
  t = with_bucket page left s

  stands : page_at t page ≡ kinds.Bucket left
  stands = page_same s page (kinds.Bucket left) within

  same_bare : (n : ℕ) → bare (page_at t n) ≡ bare (page_at s n)
  same_bare n = elim (cases_eq n page) [
    | inr other ↦ ap bare (page_other s page n (kinds.Bucket left) other)
    | inl here ↦
        ap (λ (m : ℕ). bare (page_at t m)) here ∙ ap bare stands
        ∙ bare_with (page_at s page) (removed key (records_at s page)) bucket
        ∙ ap (λ (m : ℕ). bare (page_at s m)) (sym here)
  ]

  same_chain : chain t ≡ chain s
  same_chain = chain-same s t.pages same_bare

  bucket_is : bucket_at t page ≡ left
  bucket_is = ap bucket_of stands

  still_home : (k : ℕ) → IsBucketOf s k page → IsBucketOf t k page
  still_home k home = (
    subst (λ (ns : List ℕ). Contains ns page) (sym same_chain) home.0,
    subst (λ (b : Bucket). Covers (record { depth = b.depth; pattern = b.pattern }) k) (sym bucket_is) home.1,
  )

  used_is : (bytes : ℕ) → HasValueOf bytes key (records_at s page) →
      used_on t page + (RECORD_HEAD_BYTES + bytes) ≡ used_on s page
  used_is bytes has =
      ap (λ (b : Bucket). length (record_bytes b.records) + (RECORD_HEAD_BYTES + bytes)) bucket_is
      ∙ used_removed key (records_at s page) bytes has

  pub none_due : (hash : RecordKey → ℕ) (seat : ℕ) (w : World) (bytes : ℕ) →
      w.store ≡ write_record page (Remove key) s → HasValueOf bytes key (records_at s page) →
      IsBucketOf s (hash key) page →
      is_due (bucket_at s page).depth (used_on s page) bytes ≡ false → TurnsAway hash key seat w
  none_due hash seat w bytes is has home none =
      let home' = subst (λ (x : Store). IsBucketOf x (hash key) page) (sym is) (still_home (hash key) home) in
      let depth' = ap (λ (x : Store). (range_at x page).depth) is ∙ ap (λ (b : Bucket). b.depth) bucket_is in
      let used' = ap (λ (x : Store). used_on x page + (RECORD_HEAD_BYTES + bytes)) is ∙ used_is bytes has in
      elim (cases_lt 0 (bucket_at s page).depth) [
        | inr flat ↦ IsWhole page home' (depth' ∙ omega (arith, flat))
        | inl deep ↦ elim (cases_lt MERGED_BYTES (used_on s page - RECORD_HEAD_BYTES - bytes)) [
          | inl large ↦ IsLarge page home' (omega (arith, large, used'))
          | inr small ↦ absurd (let due = due_is deep small in let f : true ≡ false = sym due ∙ none in cc)
        ]
      ]
    where
      due_is : 1 ≤ (bucket_at s page).depth → used_on s page - RECORD_HEAD_BYTES - bytes ≤ MERGED_BYTES →
          is_due (bucket_at s page).depth (used_on s page) bytes ≡ true
      due_is deep small = rw (
        le-leb 1 (bucket_at s page).depth deep,
        le-leb (used_on s page - RECORD_HEAD_BYTES - bytes) MERGED_BYTES small,
      ) refl

-- after the removal, whether a merge is due or not
pub turned : (hash : RecordKey → ℕ) (key : RecordKey) (seat n : ℕ) (due : Bool) (w : World) →
    (due ≡ false → TurnsAway hash key seat w) → TurnsAwayIn hash key seat Searching (Written n due) w
turned hash key seat n true w none = tt
turned hash key seat n false w none = none refl
