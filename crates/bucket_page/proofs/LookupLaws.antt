-- What is looked up after a change: the changes are those of a set of pairs.
use Rattle.std.proofs.Common.{◌≡◌, ℕ, Bool, true, false, cond, Option, Some, None, List, [], ◌∷◌, refl, sym, ap, ◌∙◌, arith}
use Rattle.std.specs.Prelude.{IsSome}
use Rattle.std.proofs.lemmas.Bool.Decides.{nat_tests}
use Rattle.std.specs.List.{AllByRecursion}
use Rattle.bucket_page.specs.declared.record_key.RecordKey.{RecordKey}
use Rattle.bucket_page.specs.Keys.{is_same, is_below}
use Rattle.bucket_page.specs.Records.{Pair, is_above, ascend_from, ascend, lookup}
use Rattle.bucket_page.specs.Changes.{inserted, removed, replaced}
use Rattle.bucket_page.specs.Dividing.{ShareNoKey, has_bit_as, merged, with_bit}
use Rattle.bucket_page.specs.Laws.{either}
use Rattle.bucket_page.proofs.OrderLaws.{none_above, ascend_rest}
use Rattle.directory.proofs.of_numbers.Tests.{both_true}
use Rattle.bucket_page.proofs.KeyLaws.{same_is, below_other, below_past}

-- a key that is below another is not the same as a third that is
same_both : (a b k : RecordKey) → is_below a b ≡ true → is_same a k ≡ true → is_same b k ≡ false
same_both a b k low same =
    let is = same_is a k same in
    ap (λ (x : RecordKey). is_same b x) (sym is) ∙ (below_other a b low).1

-- the key of the pair that was put in has its value, and each other key has its own
pub lookup_inserted : (key : RecordKey) (p : Pair) (ps : List Pair)
    → lookup key (inserted p ps) ≡ cond (is_same p.key key) (Some p.value) (lookup key ps)
lookup_inserted key p [] = refl
lookup_inserted key p (q ∷ qs) = by_test (is_below q.key p.key) (is_same q.key key) refl refl
    (lookup_inserted key p qs)
  where
    by_test : (low same : Bool) → is_below q.key p.key ≡ low → is_same q.key key ≡ same
        → lookup key (inserted p qs) ≡ cond (is_same p.key key) (Some p.value) (lookup key qs)
        → lookup key (cond low (q ∷ inserted p qs) (p ∷ q ∷ qs))
        ≡ cond (is_same p.key key) (Some p.value) (cond same (Some q.value) (lookup key qs))
    by_test true true low same more = rw (same, same_both q.key p.key key low same) refl
    by_test true false low same more = rw same more
    by_test false same low is more = rw is refl

-- ---- records that share no key go on to share none

-- all records behind a key are above it
pub all_above : (key : RecordKey) (ps : List Pair) → ascend_from (Some key) ps ≡ true
    → AllByRecursion (λ (q : Pair). is_below key q.key ≡ true) ps
all_above key [] h = tt
all_above key (p ∷ ps) h =
    let both = both_true (is_below key p.key) (ascend_from (Some p.key) ps) h in
    (both.0, past_all key p.key ps both.0 (all_above p.key ps both.1))
  where
    past_all : (key low : RecordKey) (ps : List Pair) → is_below key low ≡ true
        → AllByRecursion (λ (q : Pair). is_below low q.key ≡ true) ps
        → AllByRecursion (λ (q : Pair). is_below key q.key ≡ true) ps
    past_all key low [] under all = tt
    past_all key low (p ∷ ps) under all = (below_past key low p.key under all.0, past_all key low ps under all.1)

pub apart_on : (p : Pair) (ps qs : List Pair) → AllByRecursion (λ (q : Pair). is_below p.key q.key ≡ true) qs
    → AllByRecursion (λ (q : Pair). lookup q.key ps ≡ None) qs
    → AllByRecursion (λ (q : Pair). lookup q.key (inserted p ps) ≡ None) qs
apart_on p ps [] above apart = tt
apart_on p ps (q ∷ qs) above apart =
    (lookup_inserted q.key p ps ∙ rw (below_other p.key q.key above.0).0 apart.0, apart_on p ps qs above.1 apart.1)

-- ---- the other changes

-- a key that isn't the same as another is not the same as a third that is
other_then : (a b k : RecordKey) → is_same a b ≡ false → is_same a k ≡ true → is_same b k ≡ false
other_then a b k other same =
    let is = same_is a k same in
    let turned : is_same b a ≡ false = grind (arith, nat_tests) in
    ap (λ (x : RecordKey). is_same b x) (sym is) ∙ turned

same_then : (a b k : RecordKey) (t : Bool) → is_same a b ≡ true → is_same a k ≡ t → is_same b k ≡ t
same_then a b k t same is = ap (λ (x : RecordKey). is_same x k) (sym (same_is a b same)) ∙ is

-- the key of the pair that replaces another has its value
pub lookup_replaced : (key : RecordKey) (p : Pair) (ps : List Pair) → IsSome (lookup p.key ps)
    → lookup key (replaced p ps) ≡ cond (is_same p.key key) (Some p.value) (lookup key ps)
lookup_replaced key p [] there = absurd cc
lookup_replaced key p (q ∷ qs) there = by_test (is_same q.key p.key) (is_same q.key key) refl refl there
    (λ later. lookup_replaced key p qs later)
  where
    by_test : (mine same : Bool) → is_same q.key p.key ≡ mine → is_same q.key key ≡ same
        → IsSome (cond mine (Some q.value) (lookup p.key qs))
        → (IsSome (lookup p.key qs) → lookup key (replaced p qs)
        ≡ cond (is_same p.key key) (Some p.value) (lookup key qs))
        → lookup key (cond mine (p ∷ qs) (q ∷ replaced p qs))
        ≡ cond (is_same p.key key) (Some p.value) (cond same (Some q.value) (lookup key qs))
    by_test true true mine is there more = rw (same_then q.key p.key key true mine is) refl
    by_test true false mine is there more = rw (same_then q.key p.key key false mine is) refl
    by_test false true mine is there more = rw (is, other_then q.key p.key key mine is) refl
    by_test false false mine is there more = rw is (more there)

-- a key isn't found behind itself
absent_behind : (key : RecordKey) (ps : List Pair) → ascend_from (Some key) ps ≡ true → lookup key ps ≡ None
absent_behind key [] h = refl
absent_behind key (p ∷ ps) h =
    let both = both_true (is_below key p.key) (ascend_from (Some p.key) ps) h in
    rw (below_other key p.key both.0).1 (none_above key p.key ps both.0 both.1)

pub lookup_removed : (key gone : RecordKey) (low : Option RecordKey) (ps : List Pair) → ascend_from low ps ≡ true
    → lookup key (removed gone ps) ≡ cond (is_same gone key) None (lookup key ps)
lookup_removed key gone low [] h = by_test (is_same gone key)
  where
    by_test : (b : Bool) → ◌≡◌ {A = Option (List ℕ)} None (cond b None None)
    by_test true = refl
    by_test false = refl
lookup_removed key gone low (q ∷ qs) h =
    let both = both_true (is_above low q.key) (ascend_from (Some q.key) qs) h in
    by_test (is_same q.key gone) (is_same q.key key) refl refl both.1 (lookup_removed key gone (Some q.key) qs both.1)
  where
    by_test : (mine same : Bool) → is_same q.key gone ≡ mine → is_same q.key key ≡ same
        → ascend_from (Some q.key) qs ≡ true
        → lookup key (removed gone qs) ≡ cond (is_same gone key) None (lookup key qs)
        → lookup key (cond mine qs (q ∷ removed gone qs))
        ≡ cond (is_same gone key) None (cond same (Some q.value) (lookup key qs))
    by_test true true mine is others more =
        let none : lookup key qs ≡ None = ap (λ (k : RecordKey). lookup k qs) (sym (same_is q.key key is))
        ∙ absent_behind q.key qs others in
        rw (same_then q.key gone key true mine is) none
    by_test true false mine is others more = rw (same_then q.key gone key false mine is) refl
    by_test false true mine is others more = rw (is, other_then q.key gone key mine is) refl
    by_test false false mine is others more = rw is more

-- ---- halves and joins

pub lookup_half : (set : Bool) (place : ℕ) (of_key : RecordKey → ℕ) (key : RecordKey) (ps : List Pair)
    → lookup key (with_bit set place of_key ps) ≡ cond (has_bit_as set place (of_key key)) (lookup key ps) None
lookup_half set place of_key key [] = by_test (has_bit_as set place (of_key key))
  where
    by_test : (b : Bool) → ◌≡◌ {A = Option (List ℕ)} None (cond b None None)
    by_test true = refl
    by_test false = refl
lookup_half set place of_key key (q ∷ qs) = by_test (has_bit_as set place (of_key q.key)) (is_same q.key key) refl
    refl (lookup_half set place of_key key qs)
  where
    by_test : (b same : Bool) → has_bit_as set place (of_key q.key) ≡ b → is_same q.key key ≡ same
        → lookup key (with_bit set place of_key qs) ≡ cond (has_bit_as set place (of_key key)) (lookup key qs) None
        → lookup key (cond b (q ∷ with_bit set place of_key qs) (with_bit set place of_key qs))
        ≡ cond (has_bit_as set place (of_key key)) (cond same (Some q.value) (lookup key qs)) None
    by_test true true b is more =
        let mine : has_bit_as set place (of_key key) ≡ true =
        ap (λ (k : RecordKey). has_bit_as set place (of_key k)) (sym (same_is q.key key is)) ∙ b in
        rw (is, mine) refl
    by_test false true b is more =
        let mine : has_bit_as set place (of_key key) ≡ false =
        ap (λ (k : RecordKey). has_bit_as set place (of_key k)) (sym (same_is q.key key is)) ∙ b in
        let none : lookup key (with_bit set place of_key qs) ≡ None = more ∙ rw mine refl in
        rw mine none
    by_test true false b is more = rw is more
    by_test false false b is more = more

pub lookup_merged : (key : RecordKey) (ps qs : List Pair) → ShareNoKey ps qs → ascend qs ≡ true
    → lookup key (merged ps qs) ≡ either (lookup key ps) (lookup key qs)
lookup_merged key ps [] apart h = by_value (lookup key ps)
  where
    by_value : (o : Option (List ℕ)) → o ≡ either o None
    by_value None = refl
    by_value (Some x) = refl
lookup_merged key ps (q ∷ qs) apart h =
    let more = lookup_merged key (inserted q ps) qs (apart_on q ps qs (all_above q.key qs h) apart.1)
    (ascend_rest (Some q.key) qs h) in
    more ∙ ap (λ (o : Option (List ℕ)). either o (lookup key qs)) (lookup_inserted key q ps)
    ∙ by_test (is_same q.key key) refl apart.0
  where
    by_test : (same : Bool) → is_same q.key key ≡ same → lookup q.key ps ≡ None
        → either (cond same (Some q.value) (lookup key ps)) (lookup key qs)
        ≡ either (lookup key ps) (cond same (Some q.value) (lookup key qs))
    by_test true is none =
        let absent : lookup key ps ≡ None = ap (λ (k : RecordKey). lookup k ps) (sym (same_is q.key key is)) ∙ none in
        rw absent refl
    by_test false is none = refl
