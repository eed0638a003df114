-- Which ids stand among records, and that a file has the Queues of exactly these.
use Rattle.std.proofs.Common.{ℕ, ◌≡◌, ◌+◌, ◌<◌, ◌≤◌, Bool, true, false, List, [], ◌∷◌, ◌++◌, length, take, Some, None, Option, ◌⊎◌, if◌then◌else◌, inl, inr, refl, sym, ap, subst, ◌∙◌, arith}
use Rattle.std.specs.Ordering.{nat_cmp}
use Rattle.std.specs.Prelude.{◌≢◌, nat_eq}
use Rattle.std.specs.List.{Contains, dedup}
use Rattle.std.specs.List.Sorted.{IsPermutation, IsSorted, IsStrictlySortedBy}
use Rattle.std.proofs.lemmas.Cmp.{nat_cmp_total}
use Rattle.std.proofs.lemmas.Bool.Decides.{nat_tests}
use Rattle.std.proofs.lemmas.List.{append-nil, take_all}
use Rattle.std.proofs.lemmas.List.Elements.{Contains-append_left, Contains-append_right, Contains-append_cases}
use Rattle.std.proofs.lemmas.List.Kept.{AllPairs-from_increasing, Contains-dedup_nat, Contains-from_dedup, IsStrictlySortedBy-dedup}
use Rattle.std.proofs.lemmas.Map.Keys.{IsStrictlyIncreasing-from_sorted}
use Rattle.std.proofs.lemmas.List.Sorted.{Contains-permutation, IsPermutation-sym}
use Rattle.bucket_page.specs.Keys.{is_same}
use Rattle.bucket_page.specs.Records.{lookup}
use Rattle.queue_records.specs.Keys.{key_of_queue}
use Rattle.record_walk.specs.Systems.{AreQueueIds}
use Rattle.type_chains.proofs.Members.{contains_head}
use Rattle.file_check.specs.Ids.{is_queue, id_in, ids_in}
use Rattle.file_check.specs.Words.{Layout, Pair, Store, chain, held_in, pairs_on}
use Rattle.record_walk.proofs.VersionLemmas.{held_none, none_held}

-- ---- record by record

pub put_all : (ids : List ℕ) (left : List Pair) (all : List ℕ) → left ≡ [] → ids ++ ids_in left ≡ all → ids ≡ all
put_all ids left all ended so = sym (append-nil ids) ∙ ap (λ qs. ids ++ ids_in qs) (sym ended) ∙ so

-- ---- page by page

module _ (s : Store) (ns : List ℕ) where
  pub ids_end : (i : ℕ) (ids : List ℕ) → length ns ≤ i → ids ≡ ids_in (pairs_on s (take i ns)) →
      ids ≡ ids_in (pairs_on s ns)
  ids_end i ids ended so = so ∙ ap (λ ms. ids_in (pairs_on s ms)) (take_all i ns ended)

-- ---- a Queue stands where its id does

stands : (id : ℕ) (ps : List Pair) → lookup (key_of_queue id) ps ≢ None → Contains (ids_in ps) id
stands id [] some = absurd (some refl)
stands id (p ∷ ps) some = by_test (is_same p.key (key_of_queue id)) refl (stands id ps)
  where
    by_test : (b : Bool) → is_same p.key (key_of_queue id) ≡ b →
        (lookup (key_of_queue id) ps ≢ None → Contains (ids_in ps) id) → Contains (ids_in (p ∷ ps)) id
    by_test true same rest = (
        let queue : is_queue p.key ≡ true = grind (arith, nat_tests, same) in
        let is : p.key.queue ≡ id = grind (arith, nat_tests, same) in
        let here : id_in p ≡ p.key.queue ∷ [] = ap (λ b. if b then p.key.queue ∷ [] else []) queue in
        Contains-append_left (id_in p) (ids_in ps) id
        (subst (λ xs. Contains xs id) (sym here)
        (subst (Contains (p.key.queue ∷ [])) is (contains_head p.key.queue []))))
    by_test false other rest =
        Contains-append_right (id_in p) (ids_in ps) id
        (rest (λ none. some (ap (λ b. if b then Some p.value else lookup (key_of_queue id) ps) other ∙ none)))

looked_up : (id : ℕ) (ps : List Pair) → Contains (ids_in ps) id → lookup (key_of_queue id) ps ≢ None
looked_up id [] on none = absurd (let w = on.1 in omega (arith, w))
looked_up id (p ∷ ps) on none =
    by_test (is_same p.key (key_of_queue id)) refl (looked_up id ps)
    (Contains-append_cases (id_in p) (ids_in ps) id on)
  where
    here : Contains (id_in p) id → is_same p.key (key_of_queue id) ≡ true
    here there = by_queue (is_queue p.key) refl there
      where
        by_queue : (b : Bool) → is_queue p.key ≡ b → Contains (if b then p.key.queue ∷ [] else []) id →
            is_same p.key (key_of_queue id) ≡ true
        by_queue false e c = absurd (let w = c.1 in omega (arith, w))
        by_queue true e c = grind (arith, nat_tests, e, c.1, c.2)

    by_test : (b : Bool) → is_same p.key (key_of_queue id) ≡ b →
        (Contains (ids_in ps) id → lookup (key_of_queue id) ps ≢ None) →
        Contains (id_in p) id ⊎ Contains (ids_in ps) id → ⊥
    by_test true same rest either =
        let some : ◌≡◌ {A = Option (List ℕ)} (Some p.value) None =
        ap (λ b. if b then Some p.value else lookup (key_of_queue id) ps) (sym same) ∙ none in
        absurd cc
    by_test false other rest (inl first) = (let same = here first in absurd cc)
    by_test false other rest (inr later) =
        rest later
        (ap (λ b. if b then Some p.value else lookup (key_of_queue id) ps) (sym other) ∙ none)

-- the ids of all records of the file, sorted and each once, are those of its Queues
pub are_queue_ids : (l : Layout) (s : Store) (ns all sorted ids : List ℕ) → chain s ≡ ns
    → all ≡ ids_in (pairs_on s ns) →
    IsPermutation all sorted → IsSorted nat_cmp sorted → ids ≡ dedup nat_eq sorted → AreQueueIds (held_in l s) ids
are_queue_ids l s ns all sorted ids chained are moved order once = record {
  ascend = AllPairs-from_increasing ids (IsStrictlyIncreasing-from_sorted ids
      (subst (IsStrictlySortedBy nat_cmp) (sym once) (IsStrictlySortedBy-dedup nat_cmp_total
      (λ x y. grind (arith, nat_tests)) sorted order)));
  all = λ id held. subst (λ xs. Contains xs id) (sym once)
      (Contains-dedup_nat sorted id (Contains-permutation all sorted id moved
      (subst (λ xs. Contains xs id) (sym are)
      (stands id (pairs_on s ns) (subst (λ ms. lookup (key_of_queue id) (pairs_on s ms) ≢ None) chained
      (λ none. held (held_none l s (key_of_queue id) none)))))));
  only = λ id on none.
      subst (λ ms. lookup (key_of_queue id) (pairs_on s ms) ≢ None) (sym chained)
      (looked_up id (pairs_on s ns) (subst (λ xs. Contains xs id) are
      (Contains-permutation sorted all id (IsPermutation-sym all sorted moved)
      (Contains-from_dedup nat_eq sorted id (subst (λ xs. Contains xs id) once on)))))
      (none_held l s (key_of_queue id) none);
}
