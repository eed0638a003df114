-- What a file holds, as pairs: no two have one key, and the value at a key is that of its pair.
use Rattle.std.proofs.Common.{ℕ, zero, suc, ◌≡◌, ◌≢◌, ◌≤◌, Bool, true, false, Option, Some, List, [], ◌∷◌, ◌++◌, arith, refl, sym, ap, subst, ◌∙◌, inl, inr}
use Rattle.std.specs.List.{All, AllPairs, AllByRecursion, Contains}
use Rattle.std.proofs.lemmas.List.Elements.{All-head, All-tail, All-nil, All-cons, All-append}
use Rattle.std.proofs.lemmas.Bool.{both_ways, eq-eqb}
use Rattle.std.proofs.lemmas.List.Kept.{AllPairs-cons}
use Rattle.directory.specs.declared.pseudokey.TheConstants.{POSITIONS}
use Rattle.directory.specs.Positions.{position_of}
use Rattle.directory.specs.Ranges.{stop_of}
use Rattle.directory.specs.Tiles.{Tiles}
use Rattle.directory.proofs.MemberLaws.{contains_head, contains_tail, contains_cases, contains_none}
use Rattle.directory.proofs.RangeLaws.{range_has}
use Rattle.bucket_page.specs.declared.record_key.RecordKey.{RecordKey}
use Rattle.bucket_page.specs.Keys.{is_same, is_below}
use Rattle.bucket_page.specs.Records.{Pair, pair, ascend, lookup}
use Rattle.bucket_page.proofs.KeyLaws.{same_is, below_other}
use Rattle.bucket_page.proofs.LookupLaws.{all_above}
use Rattle.bucket_page.proofs.OrderLaws.{ascend_rest}
use Rattle.hash_file.specs.Store.{Store, bucket_at, range_at, records_at}
use Rattle.hash_file.specs.Chain.{chain, pairs, pairs_on, IsPlaced}
use Rattle.hash_file.specs.Change.{Change}
use Rattle.hash_file.specs.Sound.{IsSoundFile}
use Rattle.hash_file.specs.Words.{HasContents}

abbrev Differ : Pair → Pair → Type 0
Differ p q = p.key ≢ q.key

-- a key is the same as itself
same_self : (key : RecordKey) → is_same key key ≡ true
same_self key =
    rw (eq-eqb key.kind key.kind refl, eq-eqb key.queue key.queue refl, eq-eqb key.number key.number refl) refl

-- ascending keys differ
ascending_differ : (ps : List Pair) → ascend ps ≡ true → AllPairs Differ ps
ascending_differ [] h = λ i j d before within. absurd (omega arith)
ascending_differ (p ∷ ps) h =
    AllPairs-cons Differ p ps (above ps (all_above p.key ps h)) (ascending_differ ps (ascend_rest (Some p.key) ps h))
  where
    above : (qs : List Pair) → AllByRecursion (λ (q : Pair). is_below p.key q.key ≡ true) qs → All (Differ p) qs
    above [] h = All-nil (Differ p)
    above (q ∷ qs) h = All-cons (Differ p) q qs
        (λ same. both_ways (is_same p.key q.key) (below_other p.key q.key h.0).0
        (subst (λ (k : RecordKey). is_same p.key k ≡ true) same (same_self p.key)))
        (above qs h.1)

-- of two lists whose pairs differ, and differ from one another's, all differ
differ_append : (ps qs : List Pair) → AllPairs Differ ps → AllPairs Differ qs →
    All (λ (p : Pair). All (Differ p) qs) ps →
    AllPairs Differ (ps ++ qs)
differ_append [] qs h k cross = k
differ_append (p ∷ ps) qs h k cross =
    AllPairs-cons Differ p (ps ++ qs)
    (All-append (Differ p) ps qs first (All-head (λ (p : Pair). All (Differ p) qs) p ps cross))
    (differ_append ps qs rest k (All-tail (λ (p : Pair). All (Differ p) qs) p ps cross))
  where
    first : All (Differ p) ps
    first i d within = h zero (suc i) d (omega arith) (omega arith)

    rest : AllPairs Differ ps
    rest i j d before within = h (suc i) (suc j) d (omega arith) (omega arith)

module _ (hash : RecordKey → ℕ) (s : Store) where
  -- pairs of pages in order lie in the order of their positions
  lie_behind : (ns : List ℕ) (a b : ℕ) → Tiles (range_at s) a ns b →
      ((n : ℕ) → Contains ns n → IsPlaced hash (bucket_at s n)) →
      All (λ (q : Pair). a ≤ position_of (hash q.key)) (pairs_on s ns)
  lie_behind [] a b t placed = All-nil _
  lie_behind (n ∷ ns) a b t placed =
      All-append (λ (q : Pair). a ≤ position_of (hash q.key)) (records_at s n) (pairs_on s ns) here
      (farther (lie_behind ns (stop_of (range_at s n)) b t.1 (λ m c. placed m (contains_tail n m ns c))))
    where
      here : All (λ (q : Pair). a ≤ position_of (hash q.key)) (records_at s n)
      here i d within =
          let has = range_has (range_at s n) _ t.0.valid ((placed n (contains_head n ns)).within i d within) in
          omega (arith, has.0, t.0.begins)

      farther : All (λ (q : Pair). stop_of (range_at s n) ≤ position_of (hash q.key)) (pairs_on s ns) →
          All (λ (q : Pair). a ≤ position_of (hash q.key)) (pairs_on s ns)
      farther h i d within = omega (arith, h i d within, t.0.begins)

  pairs_differ : (ns : List ℕ) (a b : ℕ) → Tiles (range_at s) a ns b →
      ((n : ℕ) → Contains ns n → IsPlaced hash (bucket_at s n)) → AllPairs Differ (pairs_on s ns)
  pairs_differ [] a b t placed = λ i j d before within. absurd (omega arith)
  pairs_differ (n ∷ ns) a b t placed =
      differ_append (records_at s n) (pairs_on s ns)
      (ascending_differ (records_at s n) (placed n (contains_head n ns)).ascends)
      (pairs_differ ns (stop_of (range_at s n)) b t.1 (λ m c. placed m (contains_tail n m ns c)))
      (λ i d within j e inside same.
      let has = range_has (range_at s n) _ t.0.valid ((placed n (contains_head n ns)).within i d within) in
      let behind = lie_behind ns (stop_of (range_at s n)) b t.1 (λ m c. placed m (contains_tail n m ns c)) j e inside in
      omega (arith, has.1, behind, ap (λ (k : RecordKey). position_of (hash k)) same))

-- what is looked up is there
found_there : (key : RecordKey) (value : List ℕ) (ps : List Pair) → lookup key ps ≡ Some value →
    Contains ps (pair key value)
found_there key value [] h = absurd cc
found_there key value (p ∷ ps) h = by_test (is_same p.key key) refl (λ later. found_there key value ps later)
  where
    by_test : (b : Bool) → is_same p.key key ≡ b → (lookup key ps ≡ Some value → Contains ps (pair key value)) →
        Contains (p ∷ ps) (pair key value)
    by_test true same more =
        let h' : ◌≡◌ {A = Option (List ℕ)} (Some p.value) (Some value) = rw same at h in
        let is : p.value ≡ value = cc in
        let p_is : p ≡ pair key value = λ i. record { key = same_is p.key key same i; value = is i } in
        subst (Contains (p ∷ ps)) p_is (contains_head p ps)
    by_test false other more =
        let h' = rw other at h in
        contains_tail p (pair key value) ps (more h')

-- and what is there is looked up, where no two have one key
there_found : (key : RecordKey) (value : List ℕ) (ps : List Pair) → AllPairs Differ ps → Contains ps (pair key value) →
    lookup key ps ≡ Some value
there_found key value [] apart c = absurd (contains_none _ c)
there_found key value (p ∷ ps) apart c = elim (contains_cases p (pair key value) ps c) [
  | inl is ↦ (
      let same : is_same p.key key ≡ true = subst (λ (q : Pair). is_same q.key key ≡ true) (sym is) (same_self key) in
      rw same (ap (λ (q : Pair). Some q.value) is))
  | inr d ↦ by_test (is_same p.key key) refl d (there_found key value ps rest d)
]
  where
    rest : AllPairs Differ ps
    rest i j d before within = apart (suc i) (suc j) d (omega arith) (omega arith)

    by_test : (b : Bool) → is_same p.key key ≡ b → Contains ps (pair key value) → lookup key ps ≡ Some value →
        lookup key (p ∷ ps) ≡ Some value
    by_test true same d found = absurd (first d (same_is p.key key same))
      where
        first : Contains ps (pair key value) → p.key ≡ key → ⊥
        first (i, within, is) same = apart zero (suc i) (pair key value) (omega arith) (omega arith)
            (same ∙ sym (ap (λ (q : Pair). q.key) is))
    by_test false other d found = rw other found

pub contents_are_pairs : (hash : RecordKey → ℕ) (s : Store) (c : Change) → IsSoundFile hash s c → HasContents s
contents_are_pairs hash s c h =
    let apart = pairs_differ hash s (chain s) 0 POSITIONS h.chained.tiled h.placed in
    record {
      distinct = apart;
      pairs = λ key value. (found_there key value (pairs s), there_found key value (pairs s) apart);
    }
