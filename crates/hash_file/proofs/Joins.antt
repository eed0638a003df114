-- Two buckets joined: where their records stand, and what is looked up in them.
use Rattle.std.proofs.Common.{ℕ, suc, ◌≡◌, ◌<◌, Option, Some, None, List, [], ◌∷◌, true, slice_index_or, arith, refl, sym, ap, subst, ◌∙◌, inl, inr}
use Rattle.std.specs.List.{All}
use Rattle.std.proofs.lemmas.List.Elements.{All-head, All-tail}
use Rattle.directory.specs.declared.pseudokey.TheConstants.{PSEUDOKEY_BITS}
use Rattle.directory.specs.declared.range.Range.{Range}
use Rattle.directory.specs.Ranges.{IsRange, Covers, AreHalvesOf, lower_half_of, upper_half_of}
use Rattle.directory.proofs.BuddyLaws.{same_range}
use Rattle.directory.proofs.RangeLaws.{half_in_range, halves_apart}
use Rattle.bucket_page.specs.declared.record_key.RecordKey.{RecordKey}
use Rattle.bucket_page.specs.Bucket.{Bucket}
use Rattle.bucket_page.specs.Records.{Pair, ascend, lookup}
use Rattle.bucket_page.specs.Dividing.{ShareNoKey, joined, merged}
use Rattle.bucket_page.specs.Changes.{inserted}
use Rattle.bucket_page.specs.Laws.{either}
use Rattle.bucket_page.proofs.OrderLaws.{ascends_with, ascend_rest}
use Rattle.bucket_page.proofs.LookupLaws.{lookup_merged, all_above, apart_on}
use Rattle.hash_file.specs.Store.{range_of}
use Rattle.hash_file.specs.Chain.{IsPlaced}
use Rattle.hash_file.proofs.Lookups.{absent_elsewhere}
use Rattle.hash_file.proofs.Writes.{all_inserted}

-- records of keys that lie elsewhere share no key
share_none : (hash : RecordKey → ℕ) (b : Bucket) (qs : List Pair) → IsPlaced hash b →
    All (λ (q : Pair). Covers (range_of b) (hash q.key) → ⊥) qs → ShareNoKey b.records qs
share_none hash b [] placed out = tt
share_none hash b (q ∷ qs) placed out = (
  absent_elsewhere hash b q.key placed (All-head (λ (q : Pair). Covers (range_of b) (hash q.key) → ⊥) q qs out),
  share_none hash b qs placed (All-tail (λ (q : Pair). Covers (range_of b) (hash q.key) → ⊥) q qs out),
)

all_merged : (P : Pair → Type 0) (ps qs : List Pair) → All P ps → All P qs → All P (merged ps qs)
all_merged P ps [] h k = h
all_merged P ps (q ∷ qs) h k =
    all_merged P (inserted q ps) qs (all_inserted P q ps (All-head P q qs k) h) (All-tail P q qs k)

ascend_merged : (ps qs : List Pair) → ShareNoKey ps qs → ascend ps ≡ true → ascend qs ≡ true →
    ascend (merged ps qs) ≡ true
ascend_merged ps [] apart h k = h
ascend_merged ps (q ∷ qs) apart h k =
    ascend_merged (inserted q ps) qs (apart_on q ps qs (all_above q.key qs k) apart.1)
    (ascends_with None q ps refl h apart.0) (ascend_rest (Some q.key) qs k)

-- what stands in one list alone is found in both together
either_left : (key : RecordKey) (ps qs : List Pair) → lookup key qs ≡ None →
    either (lookup key ps) (lookup key qs) ≡ lookup key ps
either_left key ps qs none = rw none (by_value (lookup key ps))
  where
    by_value : (o : Option (List ℕ)) → either o None ≡ o
    by_value None = refl
    by_value (Some x) = refl

either_right : (key : RecordKey) (ps qs : List Pair) → lookup key ps ≡ None →
    either (lookup key ps) (lookup key qs) ≡ lookup key qs
either_right key ps qs none = rw none refl

-- ---- two halves of one range

-- the join has the whole range
pub range_joined : (x y : Bucket) (whole : Range) → AreHalvesOf whole (range_of x) (range_of y) →
    range_of (joined x y) ≡ whole
range_joined x y whole halves =
    let deep : x.depth ≡ suc whole.depth = ap (λ (r : Range). r.depth) halves.lower in
    same_range (range_of (joined x y)) whole (omega (arith, deep)) (ap (λ (r : Range). r.pattern) halves.lower)

module _ (hash : RecordKey → ℕ) (x y : Bucket) (whole : Range) (halves : AreHalvesOf whole (range_of x) (range_of y))
    (px : IsPlaced hash x) (py : IsPlaced hash y) (valid : IsRange whole) (shallow : whole.depth < PSEUDOKEY_BITS) where
  of_lower : (k : ℕ) → Covers (range_of x) k → Covers (lower_half_of whole) k
  of_lower k c = subst (λ (r : Range). Covers r k) halves.lower c

  of_upper : (k : ℕ) → Covers (range_of y) k → Covers (upper_half_of whole) k
  of_upper k c = subst (λ (r : Range). Covers r k) halves.upper c

  not_in_left : (key : RecordKey) → Covers (upper_half_of whole) (hash key) → lookup key x.records ≡ None
  not_in_left key high =
      absent_elsewhere hash x key px
      (λ low. halves_apart whole (hash key) valid shallow (of_lower (hash key) low) high)

  not_in_right : (key : RecordKey) → Covers (lower_half_of whole) (hash key) → lookup key y.records ≡ None
  not_in_right key low =
      absent_elsewhere hash y key py
      (λ high. halves_apart whole (hash key) valid shallow low (of_upper (hash key) high))

  no_key : ShareNoKey x.records y.records
  no_key = share_none hash x y.records px (λ i e within low.
      let k = hash (slice_index_or y.records i e).key in
      halves_apart whole k valid shallow (of_lower k low) (of_upper k (py.within i e within)))

  both : (key : RecordKey) → lookup key (joined x y).records ≡ either (lookup key x.records) (lookup key y.records)
  both key = lookup_merged key x.records y.records no_key py.ascends

  -- a key is looked up in the join as in its half
  pub joined_left : (key : RecordKey) → Covers (lower_half_of whole) (hash key) →
      lookup key (joined x y).records ≡ lookup key x.records
  joined_left key low = both key ∙ either_left key x.records y.records (not_in_right key low)

  pub joined_right : (key : RecordKey) → Covers (upper_half_of whole) (hash key) →
      lookup key (joined x y).records ≡ lookup key y.records
  joined_right key high = both key ∙ either_right key x.records y.records (not_in_left key high)

  in_whole : All (λ (p : Pair). Covers whole (hash p.key)) (joined x y).records
  in_whole = all_merged (λ (p : Pair). Covers whole (hash p.key)) x.records y.records
      (λ i e within. half_in_range whole _ valid shallow (inl (of_lower _ (px.within i e within))))
      (λ i e within. half_in_range whole _ valid shallow (inr (of_upper _ (py.within i e within))))

  pub placed_joined : IsPlaced hash (joined x y)
  placed_joined = record {
    within = subst (λ (r : Range). All (λ (p : Pair). Covers r (hash p.key)) (joined x y).records)
        (sym (range_joined x y whole halves)) in_whole;
    ascends = ascend_merged x.records y.records no_key px.ascends py.ascends;
  }
