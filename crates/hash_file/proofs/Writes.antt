-- The records of a bucket after one is put, replaced or removed.
use Rattle.std.proofs.Common.{◌≡◌, Bool, true, false, cond, Option, Some, None, List, [], ◌∷◌, refl}
use Rattle.std.specs.List.{All}
use Rattle.std.proofs.lemmas.List.Elements.{All-head, All-tail, All-cons}
use Rattle.bucket_page.specs.declared.record_key.RecordKey.{RecordKey}
use Rattle.bucket_page.specs.Keys.{is_same, is_below}
use Rattle.bucket_page.specs.Records.{Pair, is_above, ascend_from, ascend, lookup}
use Rattle.bucket_page.specs.Changes.{inserted, replaced, removed}
use Rattle.bucket_page.proofs.of_numbers.Tests.{both_true}
use Rattle.bucket_page.proofs.KeyLaws.{same_is}
use Rattle.bucket_page.proofs.OrderLaws.{ascends_with, ascend_lower}
use Rattle.bucket_page.proofs.LookupLaws.{lookup_inserted, lookup_replaced, lookup_removed}
use Rattle.hash_file.specs.Changes.{RecordWrite, Put, Replace, Remove, key_of, value_after, records_after, MayWrite}

-- ---- what holds of each record

module _ (P : Pair → Type 0) where
  pub all_inserted : (p : Pair) (ps : List Pair) → P p → All P ps → All P (inserted p ps)
  all_inserted p [] mine h = All-cons P p [] mine h
  all_inserted p (q ∷ qs) mine h =
      by_test (is_below q.key p.key) (all_inserted p qs mine (All-tail P q qs h))
    where
      by_test : (b : Bool) → All P (inserted p qs) → All P (cond b (q ∷ inserted p qs) (p ∷ q ∷ qs))
      by_test true rest = All-cons P q (inserted p qs) (All-head P q qs h) rest
      by_test false rest = All-cons P p (q ∷ qs) mine h

  all_replaced : (p : Pair) (ps : List Pair) → P p → All P ps → All P (replaced p ps)
  all_replaced p [] mine h = h
  all_replaced p (q ∷ qs) mine h =
      by_test (is_same q.key p.key) (all_replaced p qs mine (All-tail P q qs h))
    where
      by_test : (b : Bool) → All P (replaced p qs) → All P (cond b (p ∷ qs) (q ∷ replaced p qs))
      by_test true rest = All-cons P p qs mine (All-tail P q qs h)
      by_test false rest = All-cons P q (replaced p qs) (All-head P q qs h) rest

  all_removed : (key : RecordKey) (ps : List Pair) → All P ps → All P (removed key ps)
  all_removed key [] h = h
  all_removed key (q ∷ qs) h = by_test (is_same q.key key) (all_removed key qs (All-tail P q qs h))
    where
      by_test : (b : Bool) → All P (removed key qs) → All P (cond b qs (q ∷ removed key qs))
      by_test true rest = All-tail P q qs h
      by_test false rest = All-cons P q (removed key qs) (All-head P q qs h) rest

  -- of a written record what holds of its key
  pub all_written : (w : RecordWrite) (ps : List Pair) → ((p : Pair) → p.key ≡ key_of w → P p) → All P ps →
      All P (records_after w ps)
  all_written (Put p) ps mine h = all_inserted p ps (mine p refl) h
  all_written (Replace p) ps mine h = all_replaced p ps (mine p refl) h
  all_written (Remove key) ps mine h = all_removed key ps h

-- ---- the order of keys

ascend_replaced : (low : Option RecordKey) (p : Pair) (ps : List Pair) → ascend_from low ps ≡ true →
    ascend_from low (replaced p ps) ≡ true
ascend_replaced low p [] h = h
ascend_replaced low p (q ∷ qs) h =
    let both = both_true (is_above low q.key) (ascend_from (Some q.key) qs) h in
    by_test (is_same q.key p.key) refl both.0 both.1 (ascend_replaced (Some q.key) p qs both.1)
  where
    by_test : (b : Bool) → is_same q.key p.key ≡ b → is_above low q.key ≡ true → ascend_from (Some q.key) qs ≡ true →
        ascend_from (Some q.key) (replaced p qs) ≡ true →
        ascend_from low (cond b (p ∷ qs) (q ∷ replaced p qs)) ≡ true
    by_test true same first others rest =
        let is = same_is q.key p.key same in
        let first' : is_above low p.key ≡ true = rw (← is) first in
        let others' : ascend_from (Some p.key) qs ≡ true = rw (← is) others in
        rw first' others'
    by_test false same first others rest = rw first rest

ascend_removed : (low : Option RecordKey) (key : RecordKey) (ps : List Pair) → ascend_from low ps ≡ true →
    ascend_from low (removed key ps) ≡ true
ascend_removed low key [] h = h
ascend_removed low key (q ∷ qs) h =
    let both = both_true (is_above low q.key) (ascend_from (Some q.key) qs) h in
    by_test (is_same q.key key) both.0 (ascend_lower low q qs both.0 both.1)
    (ascend_removed (Some q.key) key qs both.1)
  where
    by_test : (b : Bool) → is_above low q.key ≡ true → ascend_from low qs ≡ true →
        ascend_from (Some q.key) (removed key qs) ≡ true →
        ascend_from low (cond b qs (q ∷ removed key qs)) ≡ true
    by_test true first without rest = without
    by_test false first without rest = rw first rest

pub ascend_written : (w : RecordWrite) (ps : List Pair) → MayWrite w ps → ascend ps ≡ true
    → ascend (records_after w ps) ≡ true
ascend_written (Put p) ps may h = ascends_with None p ps refl h may
ascend_written (Replace p) ps may h = ascend_replaced None p ps h
ascend_written (Remove key) ps may h = ascend_removed None key ps h

-- ---- what is looked up

pub lookup_written : (w : RecordWrite) (key : RecordKey) (ps : List Pair) → MayWrite w ps → ascend ps ≡ true →
    lookup key (records_after w ps) ≡ cond (is_same (key_of w) key) (value_after w) (lookup key ps)
lookup_written (Put p) key ps may h = lookup_inserted key p ps
lookup_written (Replace p) key ps may h = lookup_replaced key p ps may
lookup_written (Remove gone) key ps may h = lookup_removed key gone None ps h
