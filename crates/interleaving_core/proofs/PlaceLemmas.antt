-- The calls of seats in their list.
use Rattle.std.proofs.Common.{◌≡◌, ◌≢◌, refl, sym, ap, ◌∙◌, inl, inr, ℕ, zero, suc, ◌+◌, ◌-◌, ◌≤◌, Bool, true, false, List, [], ◌∷◌, Option, Some, None, length, map, slice_set, slice_index_or, length-set, get_or-set_same, get_or-set_other, arith}
use Rattle.std.specs.Prelude.{sum_by}
use Rattle.std.proofs.Math.ListN.{get_or-map}
use Rattle.std.proofs.lemmas.Bool.{cases_lt}
use Rattle.std.proofs.lemmas.List.{get_or_past, map-set, set-get_or, set-set}
use Rattle.std.proofs.lemmas.List.Sums.{sum_by-set, sum_by-cons}
use Rattle.interleaving_core.specs.Words.{row_of, with_row}
use Rattle.interleaving_core.specs.Active.{ActiveView, drafted}
use Rattle.interleaving_core.specs.Kernel.{call_at, due_at, due_for_stop, locks_of, with_call}
use Rattle.interleaving_core.specs.declared.active.Draft.{Draft}

abbrev pub Seats : Type 0
Seats = List (Option ActiveView)

-- ---- places

pub less : (place : ℕ) → suc place - 1 ≡ place
less place = omega arith

pub at_place : (seats : Seats) (seat : ℕ) → 1 ≤ seat → slice_index_or seats (seat - 1) None ≡ call_at seats seat
at_place seats zero some = absurd (omega (arith, some))
at_place seats (suc place) some = ap (λ (n : ℕ). slice_index_or seats n None) (less place)

pub with_place : (seats : Seats) (seat : ℕ) (left : Option ActiveView) → 1 ≤ seat →
    slice_set seats (seat - 1) left ≡ with_call seats seat left
with_place seats zero left some = absurd (omega (arith, some))
with_place seats (suc place) left some = ap (λ (n : ℕ). slice_set seats n left) (less place)

pub at_same : (seats : Seats) (seat : ℕ) (left : Option ActiveView) → 1 ≤ seat → seat ≤ length seats →
    call_at (with_call seats seat left) seat ≡ left
at_same seats zero left some within = absurd (omega (arith, some))
at_same seats (suc place) left some within = get_or-set_same seats place left None (omega (arith, within))

pub at_other : (seats : Seats) (seat other : ℕ) (left : Option ActiveView) → other ≢ seat →
    call_at (with_call seats seat left) other ≡ call_at seats other
at_other seats zero other left not = refl
at_other seats (suc place) zero left not = refl
at_other seats (suc place) (suc there) left not =
    get_or-set_other seats place there left None (λ is. not (ap suc is))

pub with_own : (seats : Seats) (seat : ℕ) → with_call seats seat (call_at seats seat) ≡ seats
with_own seats zero = refl
with_own seats (suc place) = set-get_or seats place None

pub with_twice : (seats : Seats) (seat : ℕ) (first last : Option ActiveView) →
    with_call (with_call seats seat first) seat last ≡ with_call seats seat last
with_twice seats zero first last = refl
with_twice seats (suc place) first last = set-set seats place first last

pub length-with_call : (seats : Seats) (seat : ℕ) (left : Option ActiveView) →
    length (with_call seats seat left) ≡ length seats
length-with_call seats zero left = refl
length-with_call seats (suc place) left = length-set seats place left

pub row_at : (seats : Seats) (seat : ℕ) → row_of (map locks_of seats) seat ≡ locks_of (call_at seats seat)
row_at seats zero = refl
row_at seats (suc place) = get_or-map locks_of seats place None

pub rows_with : (seats : Seats) (seat : ℕ) (left : Option ActiveView) →
    with_row (map locks_of seats) seat (locks_of left) ≡ map locks_of (with_call seats seat left)
rows_with seats zero left = refl
rows_with seats (suc place) left = sym (map-set locks_of seats place left)

pub due_with : (seats : Seats) (seat : ℕ) (left : Option ActiveView) → 1 ≤ seat → seat ≤ length seats →
    sum_by due_at (with_call seats seat left) + due_at (call_at seats seat) ≡ sum_by due_at seats + due_at left
due_with seats zero left some within = absurd (omega (arith, some))
due_with seats (suc place) left some within = sum_by-set due_at seats place left None (omega (arith, within))

-- a seat that has a call has a place
pub seat_of_call : (seats : Seats) (seat : ℕ) (a : ActiveView) → call_at seats seat ≡ Some a →
    (1 ≤ seat) × (seat ≤ length seats)
seat_of_call seats zero a there = absurd cc
seat_of_call seats (suc place) a there = (
  omega arith,
  elim (cases_lt place (length seats)) [
    | inl within ↦ omega (arith, within)
    | inr past ↦ absurd (none_some (sym (get_or_past seats place None past) ∙ there))
  ],
)
  where
    none_some : ◌≡◌ {A = Option ActiveView} None (Some a) → ⊥
    none_some clash = cc

-- ---- the entries that are due

pub few_due : (at : Option ActiveView) → due_at at ≤ 1
few_due None = omega arith
few_due (Some a) = by a.draft
  where
    by : (d : Option Draft) → drafted d ≤ 1
    by None = omega arith
    by (Some d) = omega arith

pub all_due : (seats : Seats) → sum_by due_at seats ≤ length seats
all_due [] = omega arith
all_due (at ∷ seats) =
    let one = few_due at in
    let rest = all_due seats in
    let both = sum_by-cons due_at at seats in
    omega (arith, one, rest, both)

pub stop_due : (stopped : Bool) → due_for_stop stopped ≤ 1
stop_due true = omega arith
stop_due false = omega arith
