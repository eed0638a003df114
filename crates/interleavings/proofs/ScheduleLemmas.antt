-- And after drives, and events of many seats.
use Rattle.std.proofs.Common.{ℕ, zero, suc, inl, inr, refl, sym, subst, true, [], ◌∷◌, Option, length}
use Rattle.std.proofs.lemmas.Bool.{true≢false}
use Rattle.std.proofs.lemmas.List.Elements.{All-cons, All-nil}
use Rattle.interleavings.specs.ConcurrentLaws.{BeginTogether, EndTogether, StepTogether}
use Rattle.interleaving_core.proofs.RunLemmas.{seat_stays}
use Rattle.interleaving_core.specs.declared.fault.Failure.{Failure}
use Rattle.interleavings.specs.Words.{IsSeat, IsDriven, KernelState, Moves, RecordKey, State, Step}
use Rattle.interleavings.specs.Refining.{Refines}
use Rattle.interleavings.specs.Laws.{BeginsRefine, DrivesRefine, EventsRefine, RefusalsRefine, StepsRefine, StopsRefine}
use Rattle.interleavings.specs.Runs.{Happens, IsOfSeat}
use Rattle.interleavings.specs.declared.event.Event.{Event}
use Rattle.interleavings.specs.declared.event.Event.TheVariants as events
use Rattle.interleavings.specs.declared.event.Outcome.{Outcome}
use Rattle.interleavings.specs.declared.event.Outcome.TheVariants as outcomes
use Rattle.interleavings.proofs.EventLemmas.{along}
use Rattle.interleavings.proofs.LeadLemmas.{led_with}
use Rattle.interleavings.proofs.ToldLemmas.{steps_led}

-- ---- a drive

module _ {K : Type 0} (step_on : StepsRefine K) (hash : RecordKey → ℕ) (base : State) (seat : ℕ)
    (old : KernelState K) (is : IsSeat old.locks seat) (led : Refines hash base old) where
  pub moves_led : (n : ℕ) (now : KernelState K) → Moves hash seat n old now →
      Refines hash base now × IsSeat now.locks seat
  moves_led zero now same = (
    subst (Refines hash base) (sym same) led,
    subst (λ (k : KernelState K). IsSeat k.locks seat) (sym same) is,
  )
  moves_led (suc n) now moved =
      let (before, seated) = moves_led n moved.before moved.stands in (
        step_on hash base seat _ moved.before now seated before moved.step,
        seat_stays seat _ moved.before now moved.step.turn.run seated,
      )

  pub drive_on : (did : Step) (new : KernelState K) → IsDriven hash seat did old new → Refines hash base new
  drive_on did new driven =
      let (before, seated) = moves_led driven.moves driven.before driven.moved in
      elim driven.ends [
        | inl ends ↦ step_on hash base seat did driven.before new seated before ends.step
        | inr spent ↦ subst (Refines hash base) (sym spent.marked) (broken driven.before _ before)
      ]
    where
      -- where a step has failed the journal still leads
      broken : (k : KernelState K) (failure : Option Failure) → Refines hash base k →
          Refines hash base (record k { failed = true; failure = failure })
      broken k failure on = led_with hash base k (record k { failed = true; failure = failure }) on refl refl refl refl
          refl on.sits (λ sound. absurd (true≢false sound))

pub drives_led : StepTogether → EndTogether → BeginTogether → (K : Type 0) → DrivesRefine K
drives_led steps ends begins K hash base seat did old new is led driven =
    drive_on (steps_led steps ends begins K) hash base seat old is led did new driven

-- ---- events

module _ {K : Type 0} (begins : BeginsRefine K) (refuses : RefusalsRefine K) (steps : StepsRefine K)
    (drives : DrivesRefine K) (stops : StopsRefine K) (hash : RecordKey → ℕ) (base : State) where
  event_leads : (e : Event) (o : Outcome) (old new : KernelState K) → IsOfSeat (length old.locks) e →
      Happens hash e o old new → Refines hash base old → Refines hash base new
  event_leads (events.Begin seat call) outcomes.Begun old new is has led =
      begins hash base seat call old new is led has
  event_leads (events.Begin seat call) (outcomes.Refused back fault) old new is refused led =
      refuses hash base seat call (back, fault) old new led refused
  event_leads (events.Step seat) (outcomes.Stepped did) old new is step led =
      steps hash base seat did old new is led step
  event_leads (events.Drive seat) (outcomes.Driven did) old new is driven led =
      drives hash base seat did old new is led driven.driven
  event_leads events.Stop outcomes.Stopped old new is stop led = stops hash base old new led stop
  event_leads _ _ old new is never led = absurd never

pub events_led : (K : Type 0) → BeginsRefine K → RefusalsRefine K → StepsRefine K → DrivesRefine K
    → StopsRefine K → EventsRefine K
events_led K begins refuses steps drives stops hash base es os old new seats led runs =
    along hash (Refines hash base) (event_leads begins refuses steps drives stops hash base) es os old new seats runs
    led

pub one_leads : {K : Type 0} → EventsRefine K → (hash : RecordKey → ℕ) (base : State) (e : Event) (o : Outcome)
    (old new : KernelState K) → IsOfSeat (length old.locks) e → Happens hash e o old new → Refines hash base old →
    Refines hash base new
one_leads lead hash base e o old new is happens led = lead hash base (e ∷ []) (o ∷ []) old new
    (All-cons (IsOfSeat (length old.locks)) e [] is (All-nil (IsOfSeat (length old.locks)))) led
    (record { between = new; first = happens; rest = refl })
