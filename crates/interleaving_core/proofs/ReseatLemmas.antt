-- A seat without a call gets another caller.
use Rattle.std.proofs.Common.{ℕ, zero, suc, ◌≡◌, ◌≢◌, ◌≤◌, ◌<◌, ◌-◌, refl, sym, ap, ◌∙◌, subst, inl, inr, true, false, true≢false, IsTrue, List, [], Option, Some, None, length, slice_get, slice_index_or, slice_set, length-set, get_or-set_same, get_or-set_other, map, option_map, arith}
use Rattle.std.specs.List.{All}
use Rattle.std.proofs.lemmas.Bool.{cases_eq, cases_lt}
use Rattle.std.proofs.lemmas.List.Elements.{All-set}
use Rattle.std.proofs.lemmas.Option.{slice_get-get_or, slice_get_past}
use Rattle.interleaving_core.specs.Words.{Caller, HasFittingCaller, IsSeat, caller_at}
use Rattle.interleaving_core.specs.Active.{ActiveView}
use Rattle.interleaving_core.specs.Closing.{has_one}
use Rattle.interleaving_core.specs.Kernel.{AreFittingCallers, IsCallOf, IsWhole, KernelState, call_at}
use Rattle.interleaving_core.specs.Renewing.{IsBetweenCalls, IsRenewed, KeepsCaller, Reseats, outlasting, with_caller}
use Rattle.interleaving_core.proofs.BeginLemmas.{each_seat_fits}
use Rattle.interleaving_core.proofs.KernelLemmas.{seat_there}
use Rattle.interleaving_core.proofs.PlaceLemmas.{less}

-- ---- the callers in their list

same_caller : (callers : List Caller) (place : ℕ) (caller : Caller) → place < length callers →
    slice_get (slice_set callers place caller) place ≡ Some caller
same_caller callers place caller within =
    slice_get-get_or (slice_set callers place caller) place caller
    (let long = length-set callers place caller in omega (arith, long, within))
    ∙ ap (λ (c : Caller). Some c) (get_or-set_same callers place caller caller within)

other_caller : (callers : List Caller) (place there : ℕ) (caller : Caller) → there ≢ place →
    slice_get (slice_set callers place caller) there ≡ slice_get callers there
other_caller callers place there caller apart = elim (cases_lt there (length callers)) [
  | inl within ↦
      slice_get-get_or (slice_set callers place caller) there caller
      (let long = length-set callers place caller in omega (arith, long, within))
      ∙ ap (λ (c : Caller). Some c) (get_or-set_other callers place there caller caller apart)
      ∙ sym (slice_get-get_or callers there caller within)
  | inr past ↦
      slice_get_past (slice_set callers place caller) there
      (let long = length-set callers place caller in omega (arith, long, past))
      ∙ sym (slice_get_past callers there past)
]

pub with_caller_place : (callers : List Caller) (seat : ℕ) (caller : Caller) → 1 ≤ seat →
    slice_set callers (seat - 1) caller ≡ with_caller callers seat caller
with_caller_place callers zero caller some = absurd (omega (arith, some))
with_caller_place callers (suc place) caller some = ap (λ (n : ℕ). slice_set callers n caller) (less place)

sits_there : (callers : List Caller) (seat : ℕ) (caller : Caller) → 1 ≤ seat → seat ≤ length callers →
    caller_at (with_caller callers seat caller) seat ≡ Some caller
sits_there callers zero caller some within = absurd (omega (arith, some))
sits_there callers (suc place) caller some within = same_caller callers place caller (omega (arith, within))

sits_elsewhere : (callers : List Caller) (seat other : ℕ) (caller : Caller) → other ≢ seat →
    caller_at (with_caller callers seat caller) other ≡ caller_at callers other
sits_elsewhere callers zero other caller apart = refl
sits_elsewhere callers (suc place) zero caller apart = refl
sits_elsewhere callers (suc place) (suc there) caller apart =
    other_caller callers place there caller (λ is. apart (ap suc is))

length-with_caller : (callers : List Caller) (seat : ℕ) (caller : Caller) →
    length (with_caller callers seat caller) ≡ length callers
length-with_caller callers zero caller = refl
length-with_caller callers (suc place) caller = length-set callers place caller

-- what is so of each seat's caller is so of all
all_fit : (callers : List Caller) → AreFittingCallers callers → All HasFittingCaller callers
all_fit callers fitting place d within =
    fitting (suc place) (slice_index_or callers place d) (slice_get-get_or callers place d within)

with_fitting : (callers : List Caller) (seat : ℕ) (caller : Caller) → HasFittingCaller caller →
    AreFittingCallers callers → AreFittingCallers (with_caller callers seat caller)
with_fitting callers zero caller fits fitting = fitting
with_fitting callers (suc place) caller fits fitting =
    each_seat_fits (slice_set callers place caller)
    (All-set HasFittingCaller callers place caller fits (all_fit callers fitting))

-- ---- the kernel

module _ {K : Type 0} (seat : ℕ) (caller : Caller) (old : KernelState K) (whole : IsWhole old)
    (is : IsSeat old.locks seat) (free : call_at old.seats seat ≡ None) (fits : HasFittingCaller caller) where
  abbrev seated : KernelState K
  seated = record old { callers = with_caller old.callers seat caller }

  seated_whole : IsWhole seated
  seated_whole = record {
    ready = whole.ready;
    rows = whole.rows;
    callers = length-with_caller old.callers seat caller ∙ whole.callers;
    fitting = with_fitting old.callers seat caller fits whole.fitting;
    calls = λ other. elim (cases_eq other seat) [
      | inl e ↦ subst (λ (n : ℕ). IsCallOf (caller_at seated.callers n) (call_at old.seats n)) (sym e)
          (subst (IsCallOf (caller_at seated.callers seat)) (sym free) tt)
      | inr ne ↦ subst (λ (c : Option Caller). IsCallOf c (call_at old.seats other))
          (sym (sits_elsewhere old.callers seat other caller ne)) (whole.calls other)
    ];
    room = whole.room;
    few = whole.few;
    past = whole.past;
    blamed = whole.blamed;
    counted = whole.counted;
  }

  -- as the code leaves it
  pub reseated_whole : IsWhole (record old { callers = slice_set old.callers (seat - 1) caller })
  reseated_whole = subst (λ (cs : List Caller). IsWhole (record old { callers = cs }))
      (sym (with_caller_place old.callers seat caller is.0)) seated_whole

  -- and once the journal is let go
  pub reseats : (between : IsBetweenCalls old) (new : KernelState K) →
      IsRenewed old.journal (record old { callers = slice_set old.callers (seat - 1) caller }) new →
      new.room ≡ old.room → Reseats seat caller true old new
  reseats between new went room = record {
    free = free;
    between = between;
    sits = ap (λ (k : KernelState K). caller_at k.callers seat) went.is
        ∙ ap (λ (cs : List Caller). caller_at cs seat) (with_caller_place old.callers seat caller is.0)
        ∙ sits_there old.callers seat caller is.0 within;
    is = went.is ∙ ap (λ (cs : List Caller). record old {
      callers = cs;
      seats = map (option_map (outlasting old.journal)) old.seats;
      journal = [];
      room = new.room;
    }) (with_caller_place old.callers seat caller is.0) ∙ ap (λ (n : ℕ). record old {
      callers = with_caller old.callers seat caller;
      seats = map (option_map (outlasting old.journal)) old.seats;
      journal = [];
      room = n;
    }) room;
  }
    where
      within : seat ≤ length old.callers
      within =
          let there = seat_there old whole seat is in
          let as_many = whole.callers in
          omega (arith, there, as_many)

-- ---- it keeps its caller

pub not_between : {K : Type 0} (seat : ℕ) (k : KernelState K) → (IsBetweenCalls k → IsTrue false) →
    KeepsCaller seat k k
not_between seat k busy = record { same = refl; busy = λ between free. true≢false (sym (busy between)) }

pub is_busy : {K : Type 0} (seat : ℕ) (k : KernelState K) (slot : Option ActiveView) →
    slot ≡ call_at k.seats seat → has_one slot ≡ true → KeepsCaller seat k k
is_busy seat k slot here busy = record {
  same = refl;
  busy = λ between free. true≢false (sym busy ∙ ap has_one (here ∙ free));
}
