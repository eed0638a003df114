-- So it is of each call of a kernel that refines a system, whatever events it has had.
use Rattle.std.proofs.Common.{ℕ, zero, suc, ◌≡◌, ◌≤◌, inl, inr, refl, sym, ap, ◌∙◌, subst, Bool, true, false, List, [], ◌∷◌, Option, Some, None, length, arith}
use Rattle.std.proofs.lemmas.Bool.{cases_eq}
use Rattle.queue_model.specs.declared.entry.Entry.TheVariants.{Stopped}
use Rattle.interleaving_core.proofs.PlaceLemmas.{Seats, at_other, at_same}
use Rattle.interleaving_core.specs.xsi_calls.declared.conclusion.Conclusion.{Conclusion}
use Rattle.interleaving_core.specs.xsi_calls.declared.conclusion.Conclusion.TheVariants as conclusions
use Rattle.interleaving_core.specs.declared.step.Step.TheVariants as told
use Rattle.interleavings.specs.Words.{ActiveView, Call, Caller, Entry, HasCall, IsDriven, IsSeat, IsStep, IsStopped, KernelState, Moves, RecordKey, State, Step, call_at, with_call}
use Rattle.interleavings.specs.Laws.{EventsRefine, RefinesOn, StepsRefine, StepsRefineAndDo}
use Rattle.interleavings.specs.Refining.{Refines}
use Rattle.interleavings.specs.Runs.{AreOfSeats, Happens, IsOfSeat, Runs}
use Rattle.interleavings.specs.declared.event.Event.{Event}
use Rattle.interleavings.specs.declared.event.Event.TheVariants as events
use Rattle.interleavings.specs.declared.event.Outcome.{Outcome}
use Rattle.interleavings.specs.declared.event.Outcome.TheVariants as outcomes
use Rattle.interleavings.proofs.EventLemmas.{along}
use Rattle.interleavings.proofs.ScheduleLemmas.{moves_led, one_leads}
use Rattle.interleavings.proofs.SeatNameLemmas.{none_is}
use Rattle.interleavings.proofs.WaitingLemmas.{AreFounded, IsFounded, IsFoundedAt, new_undecided, still_founded_at, takes_founded}

-- ---- all seats

module _ {K : Type 0} (does : StepsRefineAndDo K) (hash : RecordKey → ℕ) (base : State) (seat : ℕ) where
  step_founded : (did : Step) (old new : KernelState K) → Refines hash base old → IsStep hash seat did old new →
      AreFounded base old → AreFounded base new
  step_founded did old new led step founded = by old.failed refl (call_at old.seats seat) refl
    where
      others : (a : ActiveView) → call_at old.seats seat ≡ Some a → (sound : old.failed ≡ false) → AreFounded base new
      others a there sound other = subst
          (λ (cs : List Caller). IsFoundedAt base cs new.journal (call_at new.seats other))
          (sym step.turn.run.rest.callers) (elim (cases_eq other seat) [
            | inl same ↦ subst (λ (n : ℕ). IsFoundedAt base old.callers new.journal (call_at new.seats n)) (sym same)
                (takes_founded hash base seat a did (led.together sound).calls.change leads.behind old new leads.does
                (subst (IsFoundedAt base old.callers old.journal) there (founded seat)) (step.makes a there sound))
            | inr apart ↦ subst (IsFoundedAt base old.callers new.journal)
                (sym (ap (λ (seats : Seats). call_at seats other) step.turn.run.seats
                ∙ at_other old.seats seat other (call_at new.seats seat) apart))
                (subst (λ (es : List Entry). IsFoundedAt base old.callers es (call_at old.seats other))
                (sym step.turn.run.journal) (still_founded_at base old.callers old.journal step.turn.run.added
                (call_at old.seats other) (founded other)))
          ])
        where
          leads : RefinesOn hash base seat a did (led.together sound).calls.change old new
          leads = does hash base seat a did old new led there sound step

      same : new ≡ old → AreFounded base new
      same is = subst (AreFounded base) (sym is) founded

      by : (b : Bool) → old.failed ≡ b → (at : Option ActiveView) → call_at old.seats seat ≡ at → AreFounded base new
      by true broken at there = same (step.turn.still broken)
      by false sound None none = same (step.turn.spares none)
      by false sound (Some a) there = others a there sound

  module _ (steps : StepsRefine K) (old : KernelState K) (is : IsSeat old.locks seat) (led : Refines hash base old)
      (founded : AreFounded base old) where
    pub moves_founded : (n : ℕ) (now : KernelState K) → Moves hash seat n old now → AreFounded base now
    moves_founded zero now same = subst (AreFounded base) (sym same) founded
    moves_founded (suc n) now moved =
        let so_far = moves_led steps hash base seat old is led n moved.before moved.stands in
        step_founded (told.Moved moved.kind) moved.before now so_far.0 moved.step
        (moves_founded n moved.before moved.stands)

    drive_founded : (did : Step) (new : KernelState K) → IsDriven hash seat did old new → AreFounded base new
    drive_founded did new driven = elim driven.ends [
      | inl rests ↦
          let so_far = moves_led steps hash base seat old is led driven.moves driven.before driven.moved in
          step_founded did driven.before new so_far.0 rests.step
          (moves_founded driven.moves driven.before driven.moved)
      | inr spent ↦ subst (AreFounded base) (sym spent.marked)
          (moves_founded driven.moves driven.before driven.moved)
    ]

module _ {K : Type 0} (hash : RecordKey → ℕ) (base : State) where
  begin_founded : (seat : ℕ) (call : Call) (old new : KernelState K) →
      (1 ≤ seat) × (seat ≤ length old.seats) → HasCall seat call old new → AreFounded base old → AreFounded base new
  begin_founded seat call old new is has founded = subst (AreFounded base) (sym has.is) (λ other.
      elim (cases_eq other seat) [
        | inl same ↦ subst (λ (n : ℕ). IsFoundedAt base old.callers old.journal
            (call_at (with_call old.seats seat (Some has.active)) n)) (sym same)
            (subst (IsFoundedAt base old.callers old.journal)
            (sym (at_same old.seats seat (Some has.active) is.0 is.1)) begun)
        | inr apart ↦ subst (IsFoundedAt base old.callers old.journal)
            (sym (at_other old.seats seat other (Some has.active) apart)) (founded other)
      ])
    where
      begun : IsFounded base old.callers old.journal has.active
      begun = record {
        within = let many = has.begun.decided in omega (arith, many);
        put_off = λ was. elim was [
          | inl waits ↦ absurd (apart (sym (new_undecided has.active.machine has.begun.begins.new) ∙ waits))
          | inr some ↦ absurd (none_is has.active.wait has.begun.awake some)
        ];
      }
        where
          apart : ◌≡◌ {A = Option Conclusion} None (Some conclusions.Waits) → ⊥
          apart clash = cc

  stop_founded : (old new : KernelState K) → IsStopped old new → AreFounded base old → (b : Bool) → old.stopped ≡ b →
      AreFounded base new
  stop_founded old new stops founded true is = subst (AreFounded base) (sym (stops.again is)) founded
  stop_founded old new stops founded false is = subst (AreFounded base) (sym (stops.first is)) (λ seat.
      still_founded_at base old.callers old.journal (Stopped ∷ []) (call_at old.seats seat) (founded seat))

module _ {K : Type 0} (does : StepsRefineAndDo K) (steps : StepsRefine K) (lead : EventsRefine K) (hash : RecordKey → ℕ)
    (base : State) where
  pub event_founded : (e : Event) (o : Outcome) (old new : KernelState K) → IsOfSeat (length old.locks) e →
      Refines hash base old → Happens hash e o old new → AreFounded base old → AreFounded base new
  event_founded (events.Begin seat call) outcomes.Begun old new is led has founded =
      begin_founded hash base seat call old new (is.0, subst (λ (n : ℕ). seat ≤ n) led.rows is.1) has founded
  event_founded (events.Begin seat call) (outcomes.Refused back fault) old new is led refused founded =
      subst (AreFounded base) (sym refused.same) founded
  event_founded (events.Step seat) (outcomes.Stepped did) old new is led step founded =
      step_founded does hash base seat did old new led step founded
  event_founded (events.Drive seat) (outcomes.Driven did) old new is led drives founded =
      drive_founded does hash base seat steps old is led founded did new drives.driven
  event_founded events.Stop outcomes.Stopped old new is led stops founded =
      stop_founded hash base old new stops founded old.stopped refl
  event_founded _ _ old new is led never founded = absurd never

  pub founded_along : (es : List Event) (os : List Outcome) (old new : KernelState K) →
      AreOfSeats (length old.locks) es → Refines hash base old → Runs hash es os old new → AreFounded base old →
      AreFounded base new
  founded_along es os old new are led runs founded = (along hash (λ k. Refines hash base k × AreFounded base k)
      (λ e o was now is happens so. (
        one_leads lead hash base e o was now is happens so.0,
        event_founded e o was now is so.0 happens so.1,
      )) es os old new are runs (led, founded)).1
