-- The types of messages without the first of one type: the same while one of that type is left, else without it.
use Rattle.queue_model.specs.declared.message.Message.{Message}
use Rattle.std.proofs.Common.{Bool, List, Some, [], ap, arith, false, get_or, inl, inr, refl, subst, sym, true, ℕ, ℤ, ◌+◌, ◌-◌, ◌<ℤ◌, ◌∙◌, ◌∷◌, ◌≡◌}
use Rattle.std.proofs.lemmas.Bool.{cases_lt}
use Rattle.std.proofs.lemmas.Bool.Decides.{Decides-int_eq}
use Rattle.std.proofs.lemmas.Int.{ints}
use Rattle.std.proofs.lemmas.List.Edits.{get_or-remove_above, get_or-remove_below, length-remove}
use Rattle.std.proofs.lemmas.List.Elements.{All-contains}
use Rattle.std.proofs.lemmas.List.Quantifiers.{all_pairs_remove}
use Rattle.std.proofs.lemmas.Option.{get_or_from_slice_get, slice_get_within}
use Rattle.std.specs.List.{AllPairs, Contains, remove}
use Rattle.std.specs.Ordering.{int_eq}
use Rattle.std.specs.Prelude.{slice_get, ◌≢◌}
use Rattle.type_chains.proofs.FirstOfType.{IsTakenAt}
use Rattle.type_chains.proofs.Members.{contains_head, contains_tail, head_or_tail}
use Rattle.type_chains.proofs.TypesStand.{are_types_of}
use Rattle.type_chains.proofs.Unique.{pairs_head, pairs_tail}
use Rattle.type_chains.specs.Lists.{types}

abbrev Ascends : List ℤ → Type 0
Ascends ts = AllPairs (λ (a b : ℤ). a <ℤ b) ts

-- ---- ascending lists with the same elements are the same

least : (t u : ℤ) (ts : List ℤ) → Ascends (t ∷ ts) → Contains ts u → t <ℤ u
least t u ts ascend stands = All-contains (λ (b : ℤ). t <ℤ b) ts u (pairs_head (λ (a b : ℤ). a <ℤ b) t ts ascend) stands

heads : (t u : ℤ) (ts us : List ℤ) → Ascends (t ∷ ts) → Ascends (u ∷ us) → Contains (t ∷ ts) u → Contains (u ∷ us) t →
    t ≡ u
heads t u ts us one two has_u has_t = elim (head_or_tail t u ts has_u) [
  | inl same ↦ same
  | inr later ↦ elim (head_or_tail u t us has_t) [
    | inl same ↦ sym same
    | inr after ↦
        let first = least t u ts one later in
        let second = least u t us two after in
        absurd (omega (arith, ints, first, second))
  ]
]

-- what stands on the tail of one stands on the tail of the other
tails : (t : ℤ) (ts us : List ℤ) → Ascends (t ∷ ts) → ((v : ℤ) → Contains (t ∷ ts) v → Contains (t ∷ us) v) → (v : ℤ) →
    Contains ts v → Contains us v
tails t ts us ascend all v stands = elim (head_or_tail t v us (all v (contains_tail t v ts stands))) [
  | inl same ↦
      let more = least t v ts ascend stands in
      absurd (omega (arith, ints, more, same))
  | inr later ↦ later
]

pub same_lists : (ts us : List ℤ) → Ascends ts → Ascends us → ((v : ℤ) → Contains ts v → Contains us v) →
    ((v : ℤ) → Contains us v → Contains ts v) → ts ≡ us
same_lists [] [] one two to from = refl
same_lists [] (u ∷ us) one two to from =
    let (k, within, at) = from u (contains_head u us) in absurd (omega (arith, within))
same_lists (t ∷ ts) [] one two to from =
    let (k, within, at) = to t (contains_head t ts) in absurd (omega (arith, within))
same_lists (t ∷ ts) (u ∷ us) one two to from =
    let same = heads t u ts us one two (from u (contains_head u us)) (to t (contains_head t ts)) in
    let moved = subst (λ (x : ℤ). Ascends (x ∷ us)) (sym same) two in
    let to_it = subst (λ (x : ℤ). (v : ℤ) → Contains (t ∷ ts) v → Contains (x ∷ us) v) (sym same) to in
    let from_it = subst (λ (x : ℤ). (v : ℤ) → Contains (x ∷ us) v → Contains (t ∷ ts) v) (sym same) from in
    let rest = same_lists ts us (pairs_tail (λ (a b : ℤ). a <ℤ b) t ts one)
    (pairs_tail (λ (a b : ℤ). a <ℤ b) u us two)
    (tails t ts us one to_it) (tails t us ts moved from_it) in
    λ i. same i ∷ rest i

-- ---- elements of a list without one

pub stays : {X : Type 0} (xs : List X) (i : ℕ) (x y : X) → slice_get xs i ≡ Some x → Contains xs y → x ≢ y →
    Contains (remove xs i) y
stays xs i x y at (k, within, is) apart = elim (cases_lt k i) [
  | inl below ↦
      let inside = slice_get_within xs i x at in
      let fewer = length-remove xs i inside in
      (k, omega (arith, below, inside, fewer), get_or-remove_below xs i y k below inside ∙ is)
  | inr above ↦ elim (cases_lt i k) [
    | inl past ↦
        let inside = slice_get_within xs i x at in
        let fewer = length-remove xs i inside in
        let up : k - 1 + 1 ≡ k = omega (arith, past) in (
          k - 1,
          omega (arith, past, within, fewer),
          get_or-remove_above xs i y (k - 1) (omega (arith, past)) inside
              ∙ ap (λ (j : ℕ). get_or xs j y) up ∙ is,
        )
    | inr here ↦
        let same : k ≡ i = omega (arith, above, here) in
        absurd (apart (sym (get_or_from_slice_get xs i x y at) ∙ ap (λ (j : ℕ). get_or xs j y) (sym same) ∙ is))
  ]
]

pub stood : {X : Type 0} (xs : List X) (i : ℕ) (x y : X) → slice_get xs i ≡ Some x → Contains (remove xs i) y →
    Contains xs y
stood xs i x y at (k, within, is) =
    let inside = slice_get_within xs i x at in
    let fewer = length-remove xs i inside in
    elim (cases_lt k i) [
      | inl below ↦ (k, omega (arith, below, inside), sym (get_or-remove_below xs i y k below inside) ∙ is)
      | inr above ↦ (k + 1, omega (arith, within, fewer), sym (get_or-remove_above xs i y k above inside) ∙ is)
    ]

-- what goes stands no more where each two are apart
pub gone : (ts : List ℤ) (j : ℕ) (t : ℤ) → Ascends ts → slice_get ts j ≡ Some t → Contains (remove ts j) t → ⊥
gone ts j t ascend at (k, within, is) =
    let inside = slice_get_within ts j t at in
    let fewer = length-remove ts j inside in
    let its = get_or_from_slice_get ts j t t at in
    elim (cases_lt k j) [
      | inl below ↦
          let old = sym (get_or-remove_below ts j t k below inside) ∙ is in
          let less = ascend k j t below inside in
          omega (arith, ints, less, old, its)
      | inr above ↦
          let old = sym (get_or-remove_above ts j t k above inside) ∙ is in
          let less = ascend j (k + 1) t (omega (arith, above)) (omega (arith, within, fewer)) in
          omega (arith, ints, less, old, its)
    ]

-- ---- types

abbrev Has : List Message → ℤ → Type 0
Has ms t = (n : Message) × Contains ms n × (n.mtype ≡ t)

module _ (ms : List Message) (i : ℕ) (m : Message) (taken : IsTakenAt m ms i) where
  abbrev left : List Message
  left = remove ms i

  other_has : (t : ℤ) → m.mtype ≢ t → Has ms t → Has left t
  other_has t apart (n, stands, is) =
      (n, stays ms i m n taken.at stands (λ same. apart (ap (λ (x : Message). x.mtype) same ∙ is)), is)

  had : (t : ℤ) → Has left t → Has ms t
  had t (n, stands, is) = (n, stood ms i m n taken.at stands, is)

  pub its_type_stands : Contains (types ms) m.mtype
  its_type_stands = ((are_types_of ms).stand m.mtype).1
      (m, (i, slice_get_within ms i m taken.at, get_or_from_slice_get ms i m m taken.at), refl)

  -- while a message of its type is left, the types stay
  pub types_kept : (n : Message) → Contains left n → n.mtype ≡ m.mtype → types left ≡ types ms
  types_kept n stands is =
      let before = are_types_of ms in
      let after = are_types_of left in
      same_lists (types left) (types ms) after.ascend before.ascend
      (λ t there. (before.stand t).1 (had t ((after.stand t).0 there)))
      (λ t there. (after.stand t).1 (by t (int_eq m.mtype t) refl ((before.stand t).0 there)))
    where
      by : (t : ℤ) (b : Bool) → int_eq m.mtype t ≡ b → Has ms t → Has left t
      by t true e has = (n, stands, is ∙ (Decides-int_eq m.mtype t).0 e)
      by t false e has = other_has t (λ same. let clash : true ≡ false = sym ((Decides-int_eq m.mtype t).1 same) ∙ e in
          absurd cc) has

  -- else its type goes
  pub types_without : (j : ℕ) → slice_get (types ms) j ≡ Some m.mtype → ((n : Message) → Contains left n →
      n.mtype ≡ m.mtype → ⊥) → types left ≡ remove (types ms) j
  types_without j at none =
      let before = are_types_of ms in
      let after = are_types_of left in
      let ascend = all_pairs_remove (λ (a b : ℤ). a <ℤ b) (types ms) j (slice_get_within (types ms) j m.mtype at)
      before.ascend in
      same_lists (types left) (remove (types ms) j) after.ascend ascend
      (λ t there.
      let (n, stands, is) = (after.stand t).0 there in
      stays (types ms) j m.mtype t at ((before.stand t).1 (had t (n, stands, is)))
      (λ same. none n stands (is ∙ sym same)))
      (λ t there. (after.stand t).1 (other_has t
      (λ same. gone (types ms) j t before.ascend (at ∙ ap Some same) there)
      ((before.stand t).0 (stood (types ms) j m.mtype t at there))))
