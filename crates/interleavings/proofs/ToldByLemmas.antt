-- What a seat is told of an event, whatever it is, beside the journal as it then stands.
use Rattle.std.proofs.Common.{ℕ, ◌≡◌, refl, subst, Bool, true, false, IsSome, List, Option, None, length}
use Rattle.std.proofs.lemmas.Bool.{eq-eqb}
use Rattle.interleaving_core.specs.declared.fault.StepFault.TheVariants as faults
use Rattle.interleaving_core.specs.declared.step.Step.TheVariants as told
use Rattle.interleavings.specs.Words.{Call, Caller, IsDriven, IsSeat, IsStep, KernelState, RecordKey, State, Step, after, caller_at}
use Rattle.interleavings.specs.Laws.{StepsRefine, StepsRefineAndDo}
use Rattle.interleavings.specs.Moments.{IsInTheWayOf, IsToldBy, IsToldFor, LackedRoom, calls_so_far, outcome_at}
use Rattle.interleavings.specs.Outcomes.{call_under_way, lapsed_by, may_hold_locks}
use Rattle.interleavings.specs.Refining.{Refines}
use Rattle.interleavings.specs.Runs.{Happens, IsOfSeat, is_at}
use Rattle.interleavings.specs.declared.event.Event.{Event}
use Rattle.interleavings.specs.declared.event.Event.TheVariants as events
use Rattle.interleavings.specs.declared.event.Outcome.{Outcome}
use Rattle.interleavings.specs.declared.event.Outcome.TheVariants as outcomes
use Rattle.interleavings.proofs.OnWayLemmas.{AreStill}
use Rattle.interleavings.proofs.TellingLemmas.{StandsThere, drive_blocked, drive_waits, step_blocked, step_waits}
use Rattle.interleavings.proofs.UnderWayLemmas.{call_on}
use Rattle.interleavings.proofs.WaitingLemmas.{AreFounded}

module _ {K : Type 0} (does : StepsRefineAndDo K) (steps : StepsRefine K) (hash : RecordKey → ℕ) (base : State)
    (callers : List Caller) (es : List Event) (os : List Outcome) (old new : KernelState K)
    (led : Refines hash base old) (led_on : Refines hash base new) (founded : AreFounded base new)
    (same : new.callers ≡ callers) (under : (seat : ℕ) → call_on seat old ≡ call_under_way seat es os)
    (still : AreStill (λ seat. may_hold_locks seat es os) old) where
  in_the_way : (seat other : ℕ) → StandsThere seat other old → IsInTheWayOf seat other (calls_so_far es os)
  in_the_way seat other stands = record {
    another = stands.another;
    there = subst IsSome (under other) stands.there;
    moved = by (may_hold_locks other es os) refl;
  }
    where
      by : (b : Bool) → may_hold_locks other es os ≡ b → may_hold_locks other es os ≡ true
      by true is = is
      by false is = absurd (stands.holds ((still stands.sound other).unmoved is))

  -- it is told that a record has no room where its call lacked it
  abbrev IsShort : Event → Outcome → Type 0
  IsShort e o = (seat : ℕ) → is_at seat e ≡ true → lapsed_by o ≡ 1 → LackedRoom callers base seat es os new.journal

  told_step : (seat : ℕ) (did : Step) → IsStep hash seat did old new →
      IsShort (events.Step seat) (outcomes.Stepped did) → IsToldFor callers base seat es os did new.journal
  told_step seat (told.Moved kind) step short = tt
  told_step seat (told.Blocked other) step short =
      in_the_way seat other (step_blocked does hash base seat other (told.Blocked other) old new refl led step)
  told_step seat told.Waiting step short =
      subst (λ (at : Option Call). outcome_at (caller_at callers seat) at (after callers new.journal base) ≡ None)
      (under seat) (step_waits hash base seat old new led_on founded callers same told.Waiting refl step)
  told_step seat (told.Answered answer) step short = tt
  told_step seat told.Idle step short = tt
  told_step seat (told.Fault faults.NoRoom) step short = short seat (eq-eqb seat seat refl) refl
  told_step seat (told.Fault (faults.File fault)) step short = tt

  told_drive : (seat : ℕ) (did : Step) → IsSeat old.locks seat → IsDriven hash seat did old new →
      IsShort (events.Drive seat) (outcomes.Driven did) → IsToldFor callers base seat es os did new.journal
  told_drive seat (told.Moved kind) is driven short = tt
  told_drive seat (told.Blocked other) is driven short = in_the_way seat other
      (drive_blocked does hash base seat other steps (told.Blocked other) old new refl is led driven)
  told_drive seat told.Waiting is driven short =
      subst (λ (at : Option Call). outcome_at (caller_at callers seat) at (after callers new.journal base) ≡ None)
      (under seat) (drive_waits hash base seat old new led_on founded callers same told.Waiting refl driven)
  told_drive seat (told.Answered answer) is driven short = tt
  told_drive seat told.Idle is driven short = tt
  told_drive seat (told.Fault faults.NoRoom) is driven short =
      short seat (eq-eqb seat seat refl) refl
  told_drive seat (told.Fault (faults.File fault)) is driven short = tt

  pub told_by_event : (e : Event) (o : Outcome) → IsOfSeat (length old.locks) e → Happens hash e o old new →
      IsShort e o → IsToldBy callers base es os e o new.journal
  told_by_event (events.Step seat) (outcomes.Stepped did) is step short = told_step seat did step short
  told_by_event (events.Drive seat) (outcomes.Driven did) is drives short =
      told_drive seat did is drives.driven short
  told_by_event (events.Begin seat call) o is happens short = tt
  told_by_event events.Stop o is happens short = tt
  told_by_event _ _ is never short = absurd never
