-- The halves of a bucket, and two buckets joined: where their records stand, and what is looked up in them.
use Rattle.std.proofs.Common.{ℕ, suc, ◌≡◌, ◌+◌, ◌*◌, ◌/◌, ◌%◌, ◌^◌, ◌<◌, Bool, true, false, not, cond, Option, Some, None, List, [], ◌∷◌, add-one, arith, refl, sym, subst, ◌∙◌, inl, inr}
use Rattle.std.specs.List.{All, filter}
use Rattle.std.proofs.lemmas.Bool.{cases_eq, eqb-true, eq-eqb, not-true, both_ways}
use Rattle.std.proofs.lemmas.Nat.{mod-pow-add, mod_below}
use Rattle.std.proofs.lemmas.List.Elements.{All-filter, filter_passes}
use Rattle.directory.specs.declared.range.Range.{Range}
use Rattle.directory.specs.Ranges.{Covers, lower_half_of, upper_half_of}
use Rattle.directory.proofs.BuddyLaws.{same_range}
use Rattle.bucket_page.specs.declared.record_key.RecordKey.{RecordKey}
use Rattle.bucket_page.specs.Bucket.{Bucket}
use Rattle.bucket_page.specs.Records.{Pair, is_above, ascend_from, lookup}
use Rattle.bucket_page.specs.Dividing.{has_bit, lower_half, upper_half}
use Rattle.bucket_page.proofs.of_numbers.Tests.{both_true}
use Rattle.bucket_page.proofs.OrderLaws.{ascend_lower}
use Rattle.bucket_page.proofs.LookupLaws.{lookup_half}
use Rattle.hash_file.specs.Store.{range_of}
use Rattle.hash_file.specs.Chain.{IsPlaced}

-- ---- the bit that parts a range

-- one bit more of a number
next_bit : (k l : ℕ) → k % 2 ^ suc l ≡ (k / 2 ^ l % 2) * 2 ^ l + k % 2 ^ l
next_bit k l = let e : suc l ≡ 1 + l = omega arith in rw e (mod-pow-add k 1 l)

-- a pseudokey of a range whose next bit is set is one of its upper half
pub bit_set : (r : Range) (k : ℕ) → Covers r k → has_bit r.depth k ≡ true → Covers (upper_half_of r) k
bit_set r k c is =
    let one : k / 2 ^ r.depth % 2 ≡ 1 = eqb-true _ _ is in
    let more = rw one at (next_bit k r.depth) in
    omega (arith, more, c)

-- and one whose next bit is not set is one of its lower half
pub bit_clear : (r : Range) (k : ℕ) → Covers r k → has_bit r.depth k ≡ false → Covers (lower_half_of r) k
bit_clear r k c is =
    let below : k / 2 ^ r.depth % 2 < 2 = mod_below (k / 2 ^ r.depth) 2 (omega arith) in
    let none : k / 2 ^ r.depth % 2 ≡ 0 = elim (cases_eq (k / 2 ^ r.depth % 2) 1) [
      | inl one ↦ absurd (both_ways (has_bit r.depth k) is (eq-eqb _ _ one))
      | inr other ↦ omega (arith, below, other)
    ] in
    let more = rw none at (next_bit k r.depth) in
    omega (arith, more, c)

-- ---- the halves of a bucket

-- of ascending records those that pass a test ascend
ascend_some : (f : Pair → Bool) (low : Option RecordKey) (ps : List Pair) → ascend_from low ps ≡ true →
    ascend_from low (filter f ps) ≡ true
ascend_some f low [] h = refl
ascend_some f low (p ∷ ps) h =
    let both = both_true (is_above low p.key) (ascend_from (Some p.key) ps) h in
    by_test (f p) both.0 (ascend_some f (Some p.key) ps both.1)
    (ascend_some f low ps (ascend_lower low p ps both.0 both.1))
  where
    by_test : (b : Bool) → is_above low p.key ≡ true → ascend_from (Some p.key) (filter f ps) ≡ true →
        ascend_from low (filter f ps) ≡ true →
        ascend_from low (cond b (p ∷ filter f ps) (filter f ps)) ≡ true
    by_test true first kept dropped = rw first kept
    by_test false first kept dropped = dropped

-- the ranges of the halves
pub range_lower : (hash : RecordKey → ℕ) (page : ℕ) (b : Bucket) →
    range_of (lower_half hash page b) ≡ lower_half_of (range_of b)
range_lower hash page b =
    same_range (range_of (lower_half hash page b)) (lower_half_of (range_of b)) (add-one b.depth) refl

pub range_upper : (hash : RecordKey → ℕ) (b : Bucket) → range_of (upper_half hash b) ≡ upper_half_of (range_of b)
range_upper hash b =
    same_range (range_of (upper_half hash b)) (upper_half_of (range_of b)) (add-one b.depth) refl

module _ (hash : RecordKey → ℕ) (b : Bucket) (h : IsPlaced hash b) where
  pub placed_lower : (page : ℕ) → IsPlaced hash (lower_half hash page b)
  placed_lower page = record {
    within = subst (λ (r : Range). All (λ (p : Pair). Covers r (hash p.key)) (lower_half hash page b).records)
        (sym (range_lower hash page b)) within;
    ascends = ascend_some (λ (p : Pair). not (has_bit b.depth (hash p.key))) None b.records h.ascends;
  }
    where
      within : All (λ (p : Pair). Covers (lower_half_of (range_of b)) (hash p.key)) (lower_half hash page b).records
      within i d lt =
          let f = λ (p : Pair). not (has_bit b.depth (hash p.key)) in
          let was = All-filter f (λ (p : Pair). Covers (range_of b) (hash p.key)) b.records h.within i d lt in
          bit_clear (range_of b) _ was (not-true _ (filter_passes f b.records i d lt))

  pub placed_upper : IsPlaced hash (upper_half hash b)
  placed_upper = record {
    within = subst (λ (r : Range). All (λ (p : Pair). Covers r (hash p.key)) (upper_half hash b).records)
        (sym (range_upper hash b)) within;
    ascends = ascend_some (λ (p : Pair). has_bit b.depth (hash p.key)) None b.records h.ascends;
  }
    where
      within : All (λ (p : Pair). Covers (upper_half_of (range_of b)) (hash p.key)) (upper_half hash b).records
      within i d lt =
          let f = λ (p : Pair). has_bit b.depth (hash p.key) in
          let was = All-filter f (λ (p : Pair). Covers (range_of b) (hash p.key)) b.records h.within i d lt in
          bit_set (range_of b) _ was (filter_passes f b.records i d lt)

-- a key is looked up in its half as in the whole
pub look_lower : (hash : RecordKey → ℕ) (b : Bucket) (page : ℕ) (key : RecordKey) → has_bit b.depth (hash key) ≡ false →
    lookup key (lower_half hash page b).records ≡ lookup key b.records
look_lower hash b page key is = lookup_half false b.depth hash key b.records ∙ rw is refl

pub look_upper : (hash : RecordKey → ℕ) (b : Bucket) (key : RecordKey) → has_bit b.depth (hash key) ≡ true →
    lookup key (upper_half hash b).records ≡ lookup key b.records
look_upper hash b key is = lookup_half true b.depth hash key b.records ∙ rw is refl
