-- Which message the Queue's first serial, its lowest type and a Type name.
use Rattle.xsi_receive.proofs.Names.{All-contains, AllPairs, Contains, Decides-int_eq, List, Message, None, Option, SelectsLowestWithin, SelectsLowestWithin-selected, Some, [], ap, are_types_of, arith, contains_head, false, find, find-None-All, find-Some, first_of, head_or_tail, inl, inr, ints, is_of_type, nat_abs, negsuc, pairs_head, pos, refl, selected, selects, serials, subst, suc, sym, true, types, types_ascend, zero, ℕ, ℤ, ◌<ℤ◌, ◌<◌, ◌∙◌, ◌∷◌, ◌≡◌, ◌≤ℤ◌, ◌≤◌}

-- ---- the first message

pub first_some : (ms : List Message) (serial : ℕ) → first_of (serials ms) ≡ Some serial →
    (m : Message) × (selected (pos zero) ms ≡ Some m) × (serial ≡ m.serial)
first_some [] serial some = absurd cc
first_some (m ∷ ms) serial some = (m, refl, cc)

-- ---- types

pub stands_of : (ms : List Message) (m : Message) → Contains ms m → Contains (types ms) m.mtype
stands_of ms m stands = ((are_types_of ms).stand m.mtype).1 (m, stands, refl)

-- a type that stands has a first message
pub found_of : (ms : List Message) (t : ℤ) → Contains (types ms) t → (m : Message) ×
    (find (is_of_type t) ms ≡ Some m) × (m.mtype ≡ t)
found_of ms t stands = by (find (is_of_type t) ms) refl (((are_types_of ms).stand t).0 stands)
  where
    by : (o : Option Message) → find (is_of_type t) ms ≡ o → (n : Message) × Contains ms n × (n.mtype ≡ t) →
        (m : Message) × (find (is_of_type t) ms ≡ Some m) × (m.mtype ≡ t)
    by None none (n, there, is) =
        let fails = All-contains (λ (x : Message). is_of_type t x ≡ false) ms n
        (find-None-All (is_of_type t) ms none) there in
        let clash : true ≡ false = sym ((Decides-int_eq n.mtype t).1 is) ∙ fails in absurd cc
    by (Some m) found other = (m, found, (Decides-int_eq m.mtype t).0 (find-Some (is_of_type t) ms m found).0)

-- one that does not stand has none
pub none_of : (ms : List Message) (t : ℤ) → find (is_of_type t) ms ≡ None → Contains (types ms) t → ⊥
none_of ms t none stands =
    let (m, found, is) = found_of ms t stands in
    let clash : ◌≡◌ {A = Option Message} None (Some m) = sym none ∙ found in absurd cc

pub type_found : (ms : List Message) (t : ℤ) (m : Message) → find (is_of_type t) ms ≡ Some m →
    (m.mtype ≡ t) × Contains (types ms) t
type_found ms t m found =
    let passes = find-Some (is_of_type t) ms m found in
    let is = (Decides-int_eq m.mtype t).0 passes.0 in
    (is, ((are_types_of ms).stand t).1 (m, passes.1, is))

-- ---- the lowest type

-- the first of the types is the least
least : (ms : List Message) (u t : ℤ) → first_of (types ms) ≡ Some u → Contains (types ms) t → u ≤ℤ t
least ms u t lowest stands = by (types ms) lowest stands (types_ascend ms)
  where
    by : (ts : List ℤ) → first_of ts ≡ Some u → Contains ts t →
        AllPairs (λ (a b : ℤ). a <ℤ b) ts → u ≤ℤ t
    by [] none there ascend = absurd cc
    by (v ∷ vs) is there ascend =
        let same : v ≡ u = cc in
        elim (head_or_tail v t vs there) [
          | inl here ↦ omega (arith, ints, same, here)
          | inr later ↦
              let more = All-contains (λ (b : ℤ). v <ℤ b) vs t (pairs_head (λ (a b : ℤ). a <ℤ b) v vs ascend) later in
              omega (arith, ints, same, more)
        ]

pub lowest_stands : (ms : List Message) (u : ℤ) → first_of (types ms) ≡ Some u → Contains (types ms) u
lowest_stands ms u lowest = by (types ms) lowest
  where
    by : (ts : List ℤ) → first_of ts ≡ Some u → Contains ts u
    by [] none = absurd cc
    by (v ∷ vs) is = let same : v ≡ u = cc in subst (λ (x : ℤ). Contains (x ∷ vs) u) (sym same) (contains_head u vs)

module _ (ms : List Message) (n : ℕ) where
  law : SelectsLowestWithin n ms
  law = SelectsLowestWithin-selected n ms

  -- no type stands
  pub none_stands : first_of (types ms) ≡ None → selected (negsuc n) ms ≡ None
  none_stands none = by (selected (negsuc n) ms) refl
    where
      empty : (ts : List ℤ) (t : ℤ) → first_of ts ≡ None → Contains ts t → ⊥
      empty [] t none (k, within, at) = omega (arith, within)
      empty (u ∷ us) t none stands = absurd cc

      by : (o : Option Message) → selected (negsuc n) ms ≡ o → selected (negsuc n) ms ≡ None
      by None is = is
      by (Some m) is = absurd (empty (types ms) m.mtype none
          (stands_of ms m (find-Some (selects (negsuc n) ms) ms m is).1))

  -- the lowest type is out of range
  pub out_of_range : (u : ℤ) → first_of (types ms) ≡ Some u → pos (suc n) <ℤ u → selected (negsuc n) ms ≡ None
  out_of_range u lowest more = by (selected (negsuc n) ms) refl
    where
      by : (o : Option Message) → selected (negsuc n) ms ≡ o → selected (negsuc n) ms ≡ None
      by None is = is
      by (Some m) is =
          let first = law.taken m is in
          let low = least ms u m.mtype lowest (stands_of ms m first.stands) in
          let within = first.in_range in
          absurd (omega (arith, ints, low, within, more))

  -- it is in range: its first message is taken
  pub in_range : (u : ℤ) → first_of (types ms) ≡ Some u → u ≤ℤ pos (suc n) →
      selected (negsuc n) ms ≡ find (is_of_type u) ms
  in_range u lowest within = by (selected (negsuc n) ms) refl
      (((are_types_of ms).stand u).0 (lowest_stands ms u lowest))
    where
      by : (o : Option Message) → selected (negsuc n) ms ≡ o → (x : Message) × Contains ms x × (x.mtype ≡ u) →
          selected (negsuc n) ms ≡ find (is_of_type u) ms
      by None is (x, stands, its) =
          let above = All-contains (λ (m : Message). pos (suc n) <ℤ m.mtype) ms x (law.none is) stands in
          absurd (omega (arith, ints, above, its, within))
      by (Some m) is (x, stands, its) =
          let first = law.taken m is in
          let low = least ms u m.mtype lowest (stands_of ms m first.stands) in
          let high = All-contains (λ (k : Message). k.mtype ≤ℤ pos (suc n) → m.mtype ≤ℤ k.mtype) ms x first.lowest
          stands
          (omega (arith, ints, its, within)) in
          let same : m.mtype ≡ u = omega (arith, ints, low, high, its) in
          is ∙ sym (ap (λ (t : ℤ). find (is_of_type t) ms) (sym same) ∙ first.first)

-- ---- by the type that a receive asks for

pub selects_above : (t : ℤ) (ms : List Message) → pos 0 <ℤ t → selected t ms ≡ find (is_of_type t) ms
selects_above (pos zero) ms above = absurd (omega (arith, ints, above))
selects_above (pos (suc n)) ms above = refl
selects_above (negsuc n) ms above = absurd (omega (arith, ints, above))

pub selects_below_none : (t : ℤ) (ms : List Message) → t <ℤ pos 0 → first_of (types ms) ≡ None → selected t ms ≡ None
selects_below_none (pos n) ms below none = absurd (omega (arith, ints, below))
selects_below_none (negsuc n) ms below none = none_stands ms n none

-- a type from 1 on against the absolute value of one below 0
pub selects_below_out : (t u : ℤ) (ms : List Message) → t <ℤ pos 0 → first_of (types ms) ≡ Some u → pos 1 ≤ℤ u →
    nat_abs t < nat_abs u → selected t ms ≡ None
selects_below_out (pos n) u ms below lowest typed more = absurd (omega (arith, ints, below))
selects_below_out (negsuc n) (pos k) ms below lowest typed more =
    out_of_range ms n (pos k) lowest (omega (arith, ints, more))
selects_below_out (negsuc n) (negsuc k) ms below lowest typed more = absurd (omega (arith, ints, typed))

pub selects_below_in : (t u : ℤ) (ms : List Message) → t <ℤ pos 0 → first_of (types ms) ≡ Some u → pos 1 ≤ℤ u →
    nat_abs u ≤ nat_abs t → selected t ms ≡ find (is_of_type u) ms
selects_below_in (pos n) u ms below lowest typed within = absurd (omega (arith, ints, below))
selects_below_in (negsuc n) (pos k) ms below lowest typed within =
    in_range ms n (pos k) lowest (omega (arith, ints, within))
selects_below_in (negsuc n) (negsuc k) ms below lowest typed within = absurd (omega (arith, ints, typed))
