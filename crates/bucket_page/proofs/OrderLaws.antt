-- Lists of records in the order of their keys.
use Rattle.std.proofs.Common.{◌++◌, cond, ℕ, ◌≤◌, length, refl, arith, ◌≡◌, Bool, true, false, Option, Some, None, List, [], ◌∷◌, sym, ap, ◌∙◌}
use Rattle.std.proofs.lemmas.List.{length-append}
use Rattle.std.proofs.lemmas.List.Concat.{flat_map-append}
use Rattle.bucket_page.specs.declared.record_key.RecordKey.{RecordKey}
use Rattle.bucket_page.specs.Keys.{is_same, is_below}
use Rattle.bucket_page.specs.Records.{Pair, pair, is_above, pair_bytes, ascend_from, ascend, lookup, record_bytes}
use Rattle.bucket_page.specs.Changes.{below, inserted, replaced, removed}
use Rattle.directory.proofs.of_numbers.Tests.{both_true}
use Rattle.bucket_page.proofs.KeyLaws.{below_other, below_past, other_way, same_is}

-- the records above a key don't have it
pub none_above : (key low : RecordKey) (ps : List Pair) → is_below key low ≡ true → ascend_from (Some low) ps ≡ true
    → lookup key ps ≡ None
none_above key low [] under h = refl
none_above key low (p ∷ ps) under h =
    let both = both_true _ _ h in
    let first = below_past key low p.key under both.0 in
    rw (below_other key p.key first).1 (none_above key p.key ps first both.1)

-- nor does a record that is above it, or one behind that
pub none_from : (key : RecordKey) (p : Pair) (ps qs : List Pair) → ascend qs ≡ true → qs ≡ p ∷ ps
    → is_below key p.key ≡ true → lookup key qs ≡ None
none_from key p ps qs h is under =
    let others : ascend_from (Some p.key) ps ≡ true = ap ascend (sym is) ∙ h in
    ap (lookup key) is ∙ rw (below_other key p.key under).1 (none_above key p.key ps under others)

-- what is left of ascending records ascends
pub ascend_rest : (low : Option RecordKey) (ps : List Pair) → ascend_from low ps ≡ true → ascend ps ≡ true
ascend_rest low [] h = refl
ascend_rest low (p ∷ ps) h = (both_true _ _ h).1

-- a look-up goes on behind a record of another key
pub lookup_on : (key : RecordKey) (p : Pair) (ps qs : List Pair) (same : Bool) → qs ≡ p ∷ ps
    → same ≡ is_same p.key key → same ≡ false
    → ascend qs ≡ true → (ascend ps ≡ true) × (lookup key ps ≡ lookup key qs)
lookup_on key p ps qs same is test other h =
    let others : ascend_from (Some p.key) ps ≡ true = ap ascend (sym is) ∙ h in
    (ascend_rest (Some p.key) ps others, sym (ap (lookup key) is ∙ rw (sym test ∙ other) refl))

-- ---- the records below a key, and the others

-- the records from a key on
abbrev pub from : RecordKey → List Pair → List Pair
from key [] = []
from key (q ∷ qs) = cond (is_below q.key key) (from key qs) (q ∷ qs)

parted_by : (q : Pair) (lower others qs : List Pair) (b : Bool) → qs ≡ lower ++ others
    → q ∷ qs ≡ cond b (q ∷ lower) [] ++ cond b others (q ∷ qs)
parted_by q lower others qs true is = ap (λ (xs : List Pair). q ∷ xs) is
parted_by q lower others qs false is = refl

pub parted : (key : RecordKey) (ps : List Pair) → ps ≡ below key ps ++ from key ps
parted key [] = refl
parted key (q ∷ qs) = parted_by q (below key qs) (from key qs) qs (is_below q.key key) (parted key qs)

pub below_within : (key : RecordKey) (ps : List Pair) → length (record_bytes (below key ps)) ≤ length
    (record_bytes ps)
below_within key ps =
    let parts : record_bytes ps ≡ record_bytes (below key ps) ++ record_bytes (from key ps) =
    ap record_bytes (parted key ps) ∙ flat_map-append pair_bytes (below key ps) (from key ps) in
    omega (arith, ap length parts, length-append (record_bytes (below key ps)) (record_bytes (from key ps)))

inserted_by : (p q : Pair) (lower others qs : List Pair) (b : Bool) → inserted p qs ≡ lower ++ p ∷ others
    → cond b (q ∷ inserted p qs) (p ∷ q ∷ qs) ≡ cond b (q ∷ lower) [] ++ p ∷ cond b others (q ∷ qs)
inserted_by p q lower others qs true is = ap (λ (xs : List Pair). q ∷ xs) is
inserted_by p q lower others qs false is = refl

-- a pair is put between the records below its key and the others
pub inserted_between : (p : Pair) (ps : List Pair) → inserted p ps ≡ below p.key ps ++ p ∷ from p.key ps
inserted_between p [] = refl
inserted_between p (q ∷ qs) = inserted_by p q (below p.key qs) (from p.key qs) qs (is_below q.key p.key)
    (inserted_between p qs)

-- ---- a pair put in keeps the order

fresh : (b : Bool) (value : List ℕ) (o : Option (List ℕ)) → cond b (Some value) o ≡ None → (b ≡ false) × (o ≡ None)
fresh true value o e = absurd cc
fresh false value o e = (refl, e)

ascends_by : (low : Option RecordKey) (p q : Pair) (qs : List Pair) (b : Bool) → is_below q.key p.key ≡ b
    → is_above low p.key ≡ true → is_above low q.key ≡ true
    → ascend_from (Some q.key) qs ≡ true → is_same q.key p.key ≡ false
    → (is_below q.key p.key ≡ true → ascend_from (Some q.key) (inserted p qs) ≡ true)
    → ascend_from low (cond b (q ∷ inserted p qs) (p ∷ q ∷ qs)) ≡ true
ascends_by low p q qs true test mine first others other more = rw first (more test)
ascends_by low p q qs false test mine first others other more = rw (mine, other_way q.key p.key test other) others

pub ascends_with : (low : Option RecordKey) (p : Pair) (ps : List Pair) → is_above low p.key ≡ true
    → ascend_from low ps ≡ true → lookup p.key ps ≡ None → ascend_from low (inserted p ps) ≡ true
ascends_with low p [] mine h absent = rw mine refl
ascends_with low p (q ∷ qs) mine h absent =
    let both = both_true _ _ h in
    let other = fresh (is_same q.key p.key) q.value (lookup p.key qs) absent in
    ascends_by low p q qs (is_below q.key p.key) refl mine both.0 both.1 other.0
    (λ test. ascends_with (Some q.key) p qs test both.1 other.1)

-- ---- a pair that is there

-- the records behind that of a key
abbrev pub behind : RecordKey → List Pair → List Pair
behind key [] = []
behind key (q ∷ qs) = cond (is_below q.key key) (behind key qs) qs

-- the pair of a key stands between the records below the key and those behind it
pub record IsAmong (key : RecordKey) (value : List ℕ) (ps : List Pair) : Type 0 where
  pub parts : ps ≡ below key ps ++ pair key value ∷ behind key ps
  pub replaced : (new : List ℕ) → replaced (pair key new) ps ≡ below key ps ++ pair key new ∷ behind key ps
  pub removed : removed key ps ≡ below key ps ++ behind key ps

not_below : (a b : RecordKey) → is_same a b ≡ true → is_below a b ≡ false
not_below a b same = by_test (is_below a b) refl
  where
    by_test : (t : Bool) → is_below a b ≡ t → t ≡ false
    by_test true is = absurd (let other = (below_other a b is).0 in cc)
    by_test false is = refl

is_first : (key : RecordKey) (value : List ℕ) (q : Pair) (qs : List Pair) → is_same q.key key ≡ true → q.value ≡ value
    → IsAmong key value (q ∷ qs)
is_first key value q qs same is =
    let low = not_below q.key key same in
    let q-is : q ≡ pair key value = λ i. record { key = same_is q.key key same i; value = is i } in
    record {
      parts = rw low (ap (λ (p : Pair). p ∷ qs) q-is);
      replaced = λ new. rw (same, low) refl;
      removed = rw (same, low) refl;
    }

is_later : (key : RecordKey) (value : List ℕ) (q : Pair) (qs : List Pair) → is_same q.key key ≡ false
    → is_below q.key key ≡ true → IsAmong key value qs → IsAmong key value (q ∷ qs)
is_later key value q qs other low it =
    record {
      parts = rw low (ap (λ (xs : List Pair). q ∷ xs) it.parts);
      replaced = λ new. rw (other, low) (ap (λ (xs : List Pair). q ∷ xs) (it.replaced new));
      removed = rw (other, low) (ap (λ (xs : List Pair). q ∷ xs) it.removed);
    }

pub is_among : (key : RecordKey) (value : List ℕ) (low : Option RecordKey) (ps : List Pair)
    → ascend_from low ps ≡ true → lookup key ps ≡ Some value → IsAmong key value ps
is_among key value low [] h there = absurd cc
is_among key value low (q ∷ qs) h there =
    let others : ascend_from (Some q.key) qs ≡ true = (both_true (is_above low q.key) (ascend_from (Some q.key) qs)
    h).1 in
    by_test (is_same q.key key) (is_below q.key key) refl refl others
    (λ later. is_among key value (Some q.key) qs others later)
  where
    by_test : (same under : Bool) → is_same q.key key ≡ same → is_below q.key key ≡ under
        → ascend_from (Some q.key) qs ≡ true
        → (lookup key qs ≡ Some value → IsAmong key value qs) → IsAmong key value (q ∷ qs)
    by_test true under same below others more =
        let found : ◌≡◌ {A = Option (List ℕ)} (Some q.value) (Some value) = sym (rw same refl) ∙ there in
        let is : q.value ≡ value = cc in
        is_first key value q qs same is
    by_test false true same below others more =
        let later : lookup key qs ≡ Some value = sym (rw same refl) ∙ there in
        is_later key value q qs same below (more later)
    by_test false false same below others more =
        let later : lookup key qs ≡ Some value = sym (rw same refl) ∙ there in
        let none = none_above key q.key qs (other_way q.key key below same) others in
        absurd cc

-- what is left of ascending records ascends
pub ascend_lower : (low : Option RecordKey) (p : Pair) (ps : List Pair) → is_above low p.key ≡ true
    → ascend_from (Some p.key) ps ≡ true → ascend_from low ps ≡ true
ascend_lower low p [] first h = refl
ascend_lower None p (q ∷ ps) first h = (both_true (is_above (Some p.key) q.key) (ascend_from (Some q.key) ps) h).1
ascend_lower (Some low) p (q ∷ ps) first h =
    let both = both_true (is_above (Some p.key) q.key) (ascend_from (Some q.key) ps) h in
    rw (below_past low p.key q.key first both.0) both.1

pub ascend_without : (low : Option RecordKey) (p : Pair) (lower upper : List Pair)
    → ascend_from low (lower ++ p ∷ upper) ≡ true → ascend_from low (lower ++ upper) ≡ true
ascend_without low p [] upper h =
    let both = both_true (is_above low p.key) (ascend_from (Some p.key) upper) h in
    ascend_lower low p upper both.0 both.1
ascend_without low p (q ∷ lower) upper h =
    let both = both_true (is_above low q.key) (ascend_from (Some q.key) (lower ++ p ∷ upper)) h in
    rw both.0 (ascend_without (Some q.key) p lower upper both.1)
