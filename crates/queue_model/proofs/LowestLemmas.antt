-- The lowest type in range: what the search for it finds, and what a receive takes by it.
use Rattle.std.proofs.Common.{◌≡◌, ℕ, zero, suc, ℤ, pos, ◌≤ℤ◌, ◌<ℤ◌, Bool, true, false, List, [], ◌∷◌, Option, Some, None, ◌⊎◌, inl, inr, arith, refl, sym, ap, ◌∙◌, cond}
use Rattle.std.specs.Prelude.{int_le, int_lt, IfSome}
use Rattle.std.specs.List.{All, Contains, find, fold}
use Rattle.std.specs.Ordering.{int_eq}
use Rattle.std.proofs.lemmas.Int.{ints, clamps}
use Rattle.std.proofs.lemmas.List.Elements.{All-nil, All-cons}
use Rattle.queue_model.specs.declared.message.Message.{Message}
use Rattle.queue_model.specs.Laws.{SelectsLowestWithin}
use Rattle.queue_model.specs.Selection.{lower_type, lesser, lowest_type, has_type, IsFirstOfLowest}
use Rattle.queue_model.proofs.ListLemmas.{find-None-All, find-Some}

-- t was found: no type so far is lower, and it was found before or stands on the list in range
record Finds (b : ℤ) (before : Option ℤ) (ms : List Message) (t : ℤ) : Type 0 where
  least_before : IfSome before (λ u. t ≤ℤ u)
  least : All (λ (m : Message). m.mtype ≤ℤ b → t ≤ℤ m.mtype) ms
  source : (before ≡ Some t) ⊎ ((m : Message) × Contains ms m × (m.mtype ≡ t) × (t ≤ℤ b))

contains_tail : (x m : Message) (ms : List Message) → Contains ms m → Contains (x ∷ ms) m
contains_tail x m ms (i, within, at) = (suc i, omega arith, at)

-- where nothing is found, nothing was found before and no type is in range
found_none : (b : ℤ) (a : Option ℤ) (ms : List Message) → fold (lower_type b) a ms ≡ None →
    (a ≡ None) × All (λ (m : Message). b <ℤ m.mtype) ms
found_none b a [] none = (none, All-nil (λ (m : Message). b <ℤ m.mtype))
found_none b a (m ∷ ms) none = step (int_le m.mtype b) refl (found_none b (lower_type b a m) ms none)
  where
    step : (t : Bool) → int_le m.mtype b ≡ t →
        (cond (int_le m.mtype b) (Some (lesser m.mtype a)) a ≡ None) × All (λ (m : Message). b <ℤ m.mtype) ms →
        (a ≡ None) × All (λ (m : Message). b <ℤ m.mtype) (m ∷ ms)
    step true e (n, rest) = let clash = rw e at n in absurd cc
    step false e (n, rest) = (rw e at n, All-cons (λ (m : Message). b <ℤ m.mtype) m ms (grind (arith, ints, e)) rest)

-- a type in range stands below what was found before
takes : (b t : ℤ) (a : Option ℤ) (m : Message) (ms : List Message) → int_le m.mtype b ≡ true →
    Finds b (Some (lesser m.mtype a)) ms t →
    Finds b a (m ∷ ms) t
takes b t None m ms e f = record {
  least_before = tt;
  least = All-cons (λ (m : Message). m.mtype ≤ℤ b → t ≤ℤ m.mtype) m ms (λ h. f.least_before) f.least;
  source = elim f.source [
    | inl same ↦ let is : m.mtype ≡ t = cc in inr (m, (zero, omega arith, refl), is, grind (arith, ints, e, is))
    | inr (x, c, is, within) ↦ inr (x, contains_tail m x ms c, is, within)
  ];
}
takes b t (Some u) m ms e f = record {
  least_before = omega (arith, ints, clamps, f.least_before);
  least = All-cons (λ (m : Message). m.mtype ≤ℤ b →
      t ≤ℤ m.mtype) m ms (λ h. omega (arith, ints, clamps, f.least_before)) f.least;
  source = elim f.source [
    | inl same ↦ lesser_is (int_lt u m.mtype) refl same
    | inr (x, c, is, within) ↦ inr (x, contains_tail m x ms c, is, within)
  ];
}
  where
    lesser_is : (p : Bool) → int_lt u m.mtype ≡ p →
        ◌≡◌ {A = Option ℤ} (Some (cond (int_lt u m.mtype) u m.mtype)) (Some t) →
        ◌≡◌ {A = Option ℤ} (Some u) (Some t) ⊎ ((x : Message) × Contains (m ∷ ms) x × (x.mtype ≡ t) × (t ≤ℤ b))
    lesser_is true q same = inl (rw q at same)
    lesser_is false q same =
        let now : ◌≡◌ {A = Option ℤ} (Some m.mtype) (Some t) = rw q at same in
        let is : m.mtype ≡ t = cc in
        inr (m, (zero, omega arith, refl), is, grind (arith, ints, e, is))

found_some : (b t : ℤ) (a : Option ℤ) (ms : List Message) → fold (lower_type b) a ms ≡ Some t → Finds b a ms t
found_some b t a [] some = record {
  least_before = rw some (omega (arith, ints));
  least = All-nil (λ (m : Message). m.mtype ≤ℤ b → t ≤ℤ m.mtype);
  source = inl some;
}
found_some b t a (m ∷ ms) some = step (int_le m.mtype b) refl (found_some b t (lower_type b a m) ms some)
  where
    step : (p : Bool) → int_le m.mtype b ≡ p → Finds b (cond (int_le m.mtype b) (Some (lesser m.mtype a)) a) ms t →
        Finds b a (m ∷ ms) t
    step true e f = takes b t a m ms e (rw e at f)
    step false e f = let g : Finds b a ms t = rw e at f in record {
      least_before = g.least_before;
      least = All-cons (λ (m : Message). m.mtype ≤ℤ b →
          t ≤ℤ m.mtype) m ms (λ h. absurd (grind (arith, ints, e, h))) g.least;
      source = elim g.source [
        | inl same ↦ inl same
        | inr (x, c, is, within) ↦ inr
            (x, contains_tail m x ms c, is, within)
      ];
    }

module _ (n : ℕ) (ms : List Message) where
  -- a message taken is the first of the lowest type in range
  taken_at : (m : Message) (found : Option ℤ) → lowest_type (pos (suc n)) ms ≡ found →
      find (has_type (lowest_type (pos (suc n)) ms)) ms ≡ Some m → IsFirstOfLowest (pos (suc n)) ms m
  taken_at m None e at =
      let passes = find-Some (has_type None) ms m (rw e at at) in absurd cc
  taken_at m (Some t) e at =
      let first : find (λ (k : Message). int_eq k.mtype t) ms ≡ Some m = rw e at at in
      let passes = find-Some (λ (k : Message). int_eq k.mtype t) ms m first in
      let is : m.mtype ≡ t = grind (arith, ints, passes.0) in
      let f = found_some (pos (suc n)) t None ms e in
      record {
        in_range = elim f.source [ inl clash ↦ absurd cc | inr (x, c, same, within) ↦ rw is within ];
        stands = passes.1;
        lowest = rw is f.least;
        first = ap (λ (u : ℤ). find (λ (k : Message). int_eq k.mtype u) ms) is ∙ first;
      }

  -- none is taken only where no type is in range
  none_at : (found : Option ℤ) → lowest_type (pos (suc n)) ms ≡ found →
      find (has_type (lowest_type (pos (suc n)) ms)) ms ≡ None → All (λ (m : Message). pos (suc n) <ℤ m.mtype) ms
  none_at None e empty = (found_none (pos (suc n)) None ms e).1
  none_at (Some t) e empty = elim (found_some (pos (suc n)) t None ms e).source [
    | inl clash ↦ absurd cc
    | inr (x, (i, within, at), is, _) ↦
        let fails = find-None-All (has_type (Some t)) ms (rw e at empty) i x within in
        let never : int_eq x.mtype t ≡ false = ap (has_type (Some t)) (sym at) ∙ fails in
        absurd (grind (arith, ints, never, is))
  ]

  pub SelectsLowestWithin-selected : SelectsLowestWithin n ms
  SelectsLowestWithin-selected = record {
    taken = λ m at. taken_at m (lowest_type (pos (suc n)) ms) refl at;
    none = λ empty. none_at (lowest_type (pos (suc n)) ms) refl empty;
  }
