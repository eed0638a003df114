-- Where a step of a kernel that is led fails, a transfer of its device has.
use Rattle.std.proofs.Common.{ℕ, zero, suc, ◌≡◌, ◌≤◌, inl, inr, refl, sym, ap, ◌∙◌, subst, Bool, true, false, ◌||◌, List, Option, Some, None, length, arith}
use Rattle.std.proofs.lemmas.Bool.{cases_lt}
use Rattle.page_device.specs.Device.{HasRisen}
use Rattle.interleaving_core.specs.Owing.{is_failure}
use Rattle.interleaving_core.specs.declared.fault.StepFault.TheVariants as faults
use Rattle.interleaving_core.specs.declared.step.Step.TheVariants as steps
use Rattle.interleavings.specs.Words.{ActiveView, IsDriven, IsSeat, IsStep, KernelState, Moves, RecordKey, State, Step, call_at}
use Rattle.interleavings.specs.Doing.{DoesBy}
use Rattle.interleavings.specs.Laws.{DrivesEnd, EventsRefine, StepsRefineAndDo}
use Rattle.interleavings.specs.Refining.{Refines}
use Rattle.interleavings.specs.Runs.{AreOfSeats, Happens, IsOfSeat, Runs}
use Rattle.interleavings.specs.declared.event.Event.{Event}
use Rattle.interleavings.specs.declared.event.Event.TheVariants as events
use Rattle.interleavings.specs.declared.event.Outcome.{Outcome}
use Rattle.interleavings.specs.declared.event.Outcome.TheVariants as outcomes
use Rattle.step_rules.specs.Words.{Change}
use Rattle.interleavings.proofs.EventLemmas.{along, event_keeps}
use Rattle.interleavings.proofs.ScheduleLemmas.{one_leads}
use Rattle.interleavings.proofs.UnderWayLemmas.{drive_fails, stop_same}

-- ---- the count of faults

-- within a longer time
pub risen_within : {first old new last : ℕ} → first ≤ old → old ≤ new → new ≤ last → HasRisen old new →
    HasRisen first last
risen_within {first} {old} {new} {last} before between behind risen = elim risen [
  | inl more ↦ inl (omega (arith, before, more, behind))
  | inr most ↦ elim (cases_lt first last) [
    | inl less ↦ inl less
    | inr past ↦
        let same : last ≡ new = omega (arith, before, between, behind, past) in
        inr (same ∙ most)
  ]
]

-- ---- a step that fails

module _ {K : Type 0} (does : StepsRefineAndDo K) (hash : RecordKey → ℕ) (base : State) (seat : ℕ) where
  told_risen : (a : ActiveView) (did : Step) (before behind : Change) (old new : KernelState K) →
      DoesBy hash base seat a did before behind old new → is_failure did ≡ true →
      HasRisen old.pool.faults new.pool.faults
  told_risen a (steps.Fault (faults.File fault)) before behind old new is fails = is.device.risen
  told_risen a _ before behind old new is fails = absurd cc

  pub step_risen : (did : Step) (old new : KernelState K) → Refines hash base old → IsStep hash seat did old new →
      old.failed ≡ false → is_failure did ≡ true → HasRisen old.pool.faults new.pool.faults
  step_risen did old new led step sound fails = by (call_at old.seats seat) refl
    where
      by : (o : Option ActiveView) → call_at old.seats seat ≡ o → HasRisen old.pool.faults new.pool.faults
      by None none =
          let idle = ap is_failure (step.turn.idle.1 none) in
          absurd cc
      by (Some a) there =
          let leads = does hash base seat a did old new led there sound step in
          told_risen leads.does.by did (led.together sound).calls.change leads.behind old new leads.does.does fails

  pub later_moved : (moves : ℕ) (old now : KernelState K) → Moves hash seat moves old now →
      old.pool.faults ≤ now.pool.faults
  later_moved zero old now same =
      subst (λ (k : KernelState K). old.pool.faults ≤ k.pool.faults) (sym same) (omega arith)
  later_moved (suc n) old now moved =
      let before = later_moved n old moved.before moved.stands in
      let last = moved.step.turn.run.rest.later in
      omega (arith, before, last)

-- ---- a drive that fails

pub drive_risen : {K : Type 0} → DrivesEnd K → (hash : RecordKey → ℕ) (base : State) (seat : ℕ) (did : Step)
    (old new : KernelState K) → IsSeat old.locks seat → Refines hash base old → IsDriven hash seat did old new →
    old.failed ≡ false → new.failed ≡ true → HasRisen old.pool.faults new.pool.faults
drive_risen drives hash base seat did old new is led driven sound broken =
    (drives hash base seat did old new is led sound driven).cause
    (sym (drive_fails hash seat did old new driven ∙ ap (λ (b : Bool). b || is_failure did) sound) ∙ broken)

-- ---- events

-- where a kernel fails by some of these events, a transfer has failed
module _ {K : Type 0} (does : StepsRefineAndDo K) (drives : DrivesEnd K) (lead : EventsRefine K) (hash : RecordKey → ℕ)
    (base : State) where
  not_both : {X : Type 0} (b : Bool) → b ≡ false → b ≡ true → X
  not_both b is_false is_true = absurd (clash (sym is_false ∙ is_true))
    where
      clash : false ≡ true → ⊥
      clash is = cc

  event_risen : (e : Event) (o : Outcome) (old new : KernelState K) → IsOfSeat (length old.locks) e →
      Refines hash base old → Happens hash e o old new → old.failed ≡ false → new.failed ≡ true →
      HasRisen old.pool.faults new.pool.faults
  event_risen (events.Begin seat call) outcomes.Begun old new is led has sound broken =
      not_both old.failed sound (sym (ap (λ (k : KernelState K). k.failed) has.is) ∙ broken)
  event_risen (events.Begin seat call) (outcomes.Refused back fault) old new is led refused sound broken =
      not_both old.failed sound (sym (ap (λ (k : KernelState K). k.failed) refused.same) ∙ broken)
  event_risen (events.Step seat) (outcomes.Stepped did) old new is led step sound broken =
      step_risen does hash base seat did old new led step sound
      (sym (step.turn.failed ∙ ap (λ (b : Bool). b || is_failure did) sound) ∙ broken)
  event_risen (events.Drive seat) (outcomes.Driven did) old new is led driven sound broken =
      drive_risen drives hash base seat did old new is led driven.driven sound broken
  event_risen events.Stop outcomes.Stopped old new is led stops sound broken =
      not_both old.failed sound (sym (stop_same (λ (k : KernelState K). k.failed) old new stops (λ journal room. refl)
      old.stopped refl) ∙ broken)
  event_risen _ _ old new is led never sound broken = absurd never

  -- it refines the system still, and where a step has failed since the count of faults was so, a transfer has
  record HasRisenSince (first : ℕ) (k : KernelState K) : Type 0 where
    pub led : Refines hash base k
    pub later : first ≤ k.pool.faults
    pub risen : k.failed ≡ true → HasRisen first k.pool.faults

  risen_on : (first : ℕ) (e : Event) (o : Outcome) (old new : KernelState K) → IsOfSeat (length old.locks) e →
      Happens hash e o old new → HasRisenSince first old → HasRisenSince first new
  risen_on first e o old new is happens so = record {
    led = one_leads lead hash base e o old new is happens so.led;
    later = let before = so.later in omega (arith, before, more);
    risen = λ broken. by broken old.failed refl;
  }
    where
      more : old.pool.faults ≤ new.pool.faults
      more = (event_keeps hash e o old new happens).later

      by : new.failed ≡ true → (b : Bool) → old.failed ≡ b → HasRisen first new.pool.faults
      by broken true was = risen_within (omega arith) so.later more (so.risen was)
      by broken false sound = risen_within so.later more (omega arith)
          (event_risen e o old new is so.led happens sound broken)

  pub risen_along : (es : List Event) (os : List Outcome) (old new : KernelState K) →
      AreOfSeats (length old.locks) es → Refines hash base old → Runs hash es os old new → old.failed ≡ false →
      new.failed ≡ true → HasRisen old.pool.faults new.pool.faults
  risen_along es os old new are led runs sound broken =
      (along hash (HasRisenSince old.pool.faults) (risen_on old.pool.faults) es os old new are runs
      (record { led = led; later = omega arith; risen = not_both old.failed sound })).risen broken
