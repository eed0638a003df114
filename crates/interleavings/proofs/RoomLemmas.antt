-- A call lacks room only where it has found none, at a step of the events so far.
use Rattle.std.proofs.Common.{ℕ, zero, suc, ◌≡◌, ◌≤◌, ◌⊎◌, ◌==◌, inl, inr, refl, sym, ap, ◌∙◌, subst, Bool, true, false, true≢false, ◌&&◌, ◌||◌, List, [], ◌∷◌, Option, Some, None, length, arith}
use Rattle.std.proofs.lemmas.Option.{same_Some}
use Rattle.std.specs.List.{list_any}
use Rattle.std.proofs.lemmas.Bool.{eqb-false, eqb-true}
use Rattle.std.proofs.lemmas.List.Elements.{All-head}
use Rattle.interleavings.proofs.LackingLemmas.{fresh_room}
use Rattle.interleaving_core.proofs.PlaceLemmas.{at_other, at_same}
use Rattle.interleaving_core.proofs.RunLemmas.{others_stay}
use Rattle.interleaving_core.specs.Owing.{is_failure}
use Rattle.interleaving_core.specs.declared.step.Step.TheVariants as told
use Rattle.interleavings.specs.Words.{ActiveView, Call, HasCall, IsDriven, IsSeat, IsStep, KernelState, Moves, RecordKey, State, Step, call_at, lacks_room, with_call}
use Rattle.interleavings.specs.Laws.{EventsRefine, RefinesOn, StepsRefine, StepsRefineAndDo}
use Rattle.interleavings.specs.Outcomes.{begins_along, is_begun, tells_failure}
use Rattle.interleavings.specs.Refining.{Refines}
use Rattle.interleavings.specs.Rooms.{FindsAlong, FindsBy, FindsByDrive, FindsByMove, FindsByStep}
use Rattle.interleavings.specs.Runs.{AreOfSeats, Happens, IsOfSeat, Runs, is_at}
use Rattle.interleavings.specs.declared.event.Event.{Event}
use Rattle.interleavings.specs.declared.event.Event.TheVariants as events
use Rattle.interleavings.specs.declared.event.Outcome.{Outcome}
use Rattle.interleavings.specs.declared.event.Outcome.TheVariants as outcomes
use Rattle.interleavings.proofs.EventLemmas.{rows_behind}
use Rattle.interleavings.proofs.OutcomeLemmas.{fails_along}
use Rattle.interleavings.proofs.ScheduleLemmas.{moves_led, one_leads}
use Rattle.interleavings.proofs.SettleLemmas.{and_false}
use Rattle.interleavings.proofs.UnderWayLemmas.{stop_same}

-- the call at a seat lacks room
pub record LacksAt {K : Type 0} (seat : ℕ) (k : KernelState K) : Type 0 where
  pub active : ActiveView
  pub there : call_at k.seats seat ≡ Some active
  pub lacked : lacks_room active.machine ≡ true

moved_to : {K : Type 0} (seat : ℕ) (old new : KernelState K) → call_at new.seats seat ≡ call_at old.seats seat →
    LacksAt seat new → LacksAt seat old
moved_to seat old new same lacks = record {
  active = lacks.active;
  there = sym same ∙ lacks.there;
  lacked = lacks.lacked;
}

-- ---- booleans

or_first : (a b : Bool) → (a || b) ≡ false → a ≡ false
or_first true b is = absurd cc
or_first false b is = refl

or_second : (a b : Bool) → (a || b) ≡ false → b ≡ false
or_second true b is = absurd cc
or_second false b is = is

none_of : (a b : Bool) → a ≡ false → b ≡ false → (a || b) ≡ false
none_of a b is none = ap (λ (x : Bool). x || b) is ∙ none

-- ---- a step

module _ {K : Type 0} (does : StepsRefineAndDo K) (hash : RecordKey → ℕ) (base : State) (seat : ℕ) where
  module _ (did : Step) (old new : KernelState K) (led : Refines hash base old) (step : IsStep hash seat did old new)
      (sound_then : new.failed ≡ false) (lacks : LacksAt seat new) where
    abbrev Found : Type 0
    Found = LacksAt seat old ⊎ FindsByStep hash base seat did old new

    sound_before : old.failed ≡ false
    sound_before = or_first old.failed (is_failure did) (sym step.turn.failed ∙ sound_then)

    fine : is_failure did ≡ false
    fine = or_second old.failed (is_failure did) (sym step.turn.failed ∙ sound_then)

    module _ (a : ActiveView) (there : call_at old.seats seat ≡ Some a) where
      on : RefinesOn hash base seat a did (led.together sound_before).calls.change old new
      on = does hash base seat a did old new led there sound_before step

      finds : lacks_room on.does.by.machine ≡ false → Found
      finds room = inr (record {
        refines = led;
        sound = sound_before;
        step = step;
        active = a;
        there = there;
        on = on;
        fine = fine;
        come = lacks.active;
        left = lacks.there;
        lacking = lacks.lacked;
        lacks = on.does.lacks lacks.active lacks.there fine room lacks.lacked;
      })

      of_call : (b : Bool) → lacks_room a.machine ≡ b → Found
      of_call true lacked = inl (record { active = a; there = there; lacked = lacked })
      of_call false room = finds (elim on.does.is [
        | inl itself ↦ ap (λ (x : ActiveView). lacks_room x.machine) itself.same ∙ room
        | inr woken ↦ fresh_room on.does.by.machine woken.begins.begins.new
      ])

    step_finds : Found
    step_finds = by (call_at old.seats seat) refl
      where
        by : (at : Option ActiveView) → call_at old.seats seat ≡ at → Found
        by None none = inl (subst (LacksAt seat) (step.turn.spares none) lacks)
        by (Some a) there = of_call a there (lacks_room a.machine) refl

  -- ---- a drive

  module _ (steps : StepsRefine K) (old : KernelState K) (led : Refines hash base old) (is : IsSeat old.locks seat)
    where
      pub moves_find : (moves : ℕ) (now : KernelState K) → Moves hash seat moves old now → now.failed ≡ false →
          LacksAt seat now → LacksAt seat old ⊎ FindsByMove hash base seat moves old now
      moves_find zero now same sound lacks = inl (subst (LacksAt seat) same lacks)
      moves_find (suc n) now moved sound lacks = elim (step_finds (told.Moved moved.kind) moved.before now
          (moves_led steps hash base seat old is led n moved.before moved.stands).0 moved.step sound lacks) [
            | inl earlier ↦ elim (moves_find n moved.before moved.stands sound_before earlier) [
              | inl first ↦ inl first
              | inr found ↦
                  let before = found.all in
                  inr (record {
                    earlier = found.earlier;
                    before = found.before;
                    moved = found.moved;
                    kind = found.kind;
                    behind = found.behind;
                    finds = found.finds;
                    later = suc found.later;
                    moves_on = record {
                      before = moved.before;
                      stands = found.moves_on;
                      kind = moved.kind;
                      step = moved.step;
                    };
                    all = omega (arith, before);
                  })
            ]
            | inr finds ↦ inr (record {
              earlier = n;
              before = moved.before;
              moved = moved.stands;
              kind = moved.kind;
              behind = now;
              finds = finds;
              later = 0;
              moves_on = refl;
              all = omega arith;
            })
          ]
        where
          sound_before : moved.before.failed ≡ false
          sound_before = or_first moved.before.failed false (sym moved.step.turn.failed ∙ sound)

      drive_finds : (did : Step) (new : KernelState K) → IsDriven hash seat did old new → new.failed ≡ false →
          LacksAt seat new → LacksAt seat old ⊎ FindsByDrive hash base seat did old new
      drive_finds did new driven sound lacks = elim driven.ends [
        | inl rests ↦ elim (step_finds did driven.before new
            (moves_led steps hash base seat old is led driven.moves driven.before driven.moved).0 rests.step sound
            lacks) [
              | inl earlier ↦ elim (moves_find driven.moves driven.before driven.moved
                  (or_first driven.before.failed (is_failure did) (sym rests.step.turn.failed ∙ sound)) earlier) [
                    | inl first ↦ inl first
                    | inr found ↦ inr (record { driven = driven; finds = inl found })
                  ]
              | inr finds ↦ inr (record { driven = driven; finds = inr finds })
            ]
        | inr spent ↦
            absurd (true≢false (sym (ap (λ (k : KernelState K). k.failed) spent.marked) ∙ sound))
      ]

-- ---- an event

-- it lacked room before an event by which no call begins at its seat
pub record HasLacked {K : Type 0} (seat : ℕ) (begins : Bool) (old : KernelState K) : Type 0 where
  pub at : LacksAt seat old
  pub same : begins ≡ false

module _ {K : Type 0} (does : StepsRefineAndDo K) (steps : StepsRefine K) (hash : RecordKey → ℕ) (base : State)
    (seat : ℕ) where
  abbrev FoundIn : Event → Outcome → (old new : KernelState K) → Type 0
  FoundIn e o old new = HasLacked seat (is_at seat e && is_begun o) old ⊎ FindsBy hash base seat e o old new

  -- a call that has just begun lacks no room
  begin_finds : (other : ℕ) (call : Call) (old new : KernelState K) →
      (1 ≤ other) × (other ≤ length old.seats) → HasCall other call old new →
      LacksAt seat new → HasLacked seat ((other == seat) && true) old
  begin_finds other call old new is has lacks = by (other == seat) refl
    where
      seats : new.seats ≡ with_call old.seats other (Some has.active)
      seats = ap (λ (k : KernelState K). k.seats) has.is

      by : (b : Bool) → (other == seat) ≡ b → HasLacked seat ((other == seat) && true) old
      by true here =
          let own = ap (λ (x : List (Option ActiveView)). call_at x seat) seats
          ∙ ap (call_at (with_call old.seats other (Some has.active))) (sym (eqb-true other seat here))
          ∙ at_same old.seats other (Some has.active) is.0 is.1 in
          let same = same_Some has.active lacks.active (sym own ∙ lacks.there) in
          absurd (true≢false (sym (ap (λ (x : ActiveView). lacks_room x.machine) same ∙ lacks.lacked)
          ∙ fresh_room has.active.machine has.begun.begins.new))
      by false apart = record {
        at = moved_to seat old new (ap (λ (x : List (Option ActiveView)). call_at x seat) seats
            ∙ at_other old.seats other seat (Some has.active) (λ same. eqb-false other seat apart (sym same))) lacks;
        same = ap (λ (b : Bool). b && true) apart;
      }

  event_finds : (e : Event) (o : Outcome) (old new : KernelState K) → IsOfSeat (length old.locks) e →
      Refines hash base old → Happens hash e o old new → new.failed ≡ false → LacksAt seat new → FoundIn e o old new
  event_finds (events.Begin other call) outcomes.Begun old new is led has sound lacks =
      inl (begin_finds other call old new (is.0, subst (λ (n : ℕ). other ≤ n) led.rows is.1) has lacks)
  event_finds (events.Begin other call) (outcomes.Refused back fault) old new is led refused sound lacks =
      inl (record {
        at = moved_to seat old new (ap (λ (k : KernelState K). call_at k.seats seat) refused.same) lacks;
        same = and_false (other == seat);
      })
  event_finds (events.Step other) (outcomes.Stepped did) old new is led step sound lacks = by (other == seat) refl
    where
      by : (b : Bool) → (other == seat) ≡ b →
          FoundIn (events.Step other) (outcomes.Stepped did) old new
      by true here =
          let same = eqb-true other seat here in
          elim (step_finds does hash base seat did old new led
          (subst (λ (n : ℕ). IsStep hash n did old new) same step) sound lacks) [
            | inl earlier ↦ inl (record { at = earlier; same = and_false (other == seat) })
            | inr finds ↦ inr (same, finds)
          ]
      by false apart = inl (record {
        at = moved_to seat old new (others_stay other seat _ old new step.turn.run
            (λ same. eqb-false other seat apart (sym same))) lacks;
        same = and_false (other == seat);
      })
  event_finds (events.Drive other) (outcomes.Driven did) old new is led drives sound lacks = by (other == seat) refl
    where
      by : (b : Bool) → (other == seat) ≡ b →
          FoundIn (events.Drive other) (outcomes.Driven did) old new
      by true here =
          let same = eqb-true other seat here in
          elim (drive_finds does hash base seat steps old led (subst (IsSeat old.locks) same is) did new
          (subst (λ (n : ℕ). IsDriven hash n did old new) same drives.driven) sound lacks) [
            | inl earlier ↦ inl (record { at = earlier; same = and_false (other == seat) })
            | inr finds ↦ inr (same, finds)
          ]
      by false apart = inl (record {
        at = moved_to seat old new (others_stay other seat _ old new drives.run
            (λ same. eqb-false other seat apart (sym same))) lacks;
        same = and_false (other == seat);
      })
  event_finds events.Stop outcomes.Stopped old new is led stops sound lacks = inl (record {
    at = moved_to seat old new (stop_same (λ (k : KernelState K). call_at k.seats seat) old new stops
        (λ journal room. refl) old.stopped refl) lacks;
    same = refl;
  })
  event_finds _ _ old new is led never sound lacks = absurd never

-- ---- events

module _ {K : Type 0} (does : StepsRefineAndDo K) (steps : StepsRefine K) (lead : EventsRefine K) (hash : RecordKey → ℕ)
    (base : State) (seat : ℕ) where
  pub finds_along : (es : List Event) (os : List Outcome) (old new : KernelState K) →
      AreOfSeats (length old.locks) es → Refines hash base old → Runs hash es os old new → new.failed ≡ false →
      LacksAt seat new → HasLacked seat (begins_along seat es os) old ⊎ FindsAlong hash base seat es os old new
  finds_along [] [] old new are led same sound lacks =
      inl (record { at = subst (LacksAt seat) same lacks; same = refl })
  finds_along [] (o ∷ os) old new are led never sound lacks = absurd never
  finds_along (e ∷ es) [] old new are led never sound lacks = absurd never
  finds_along (e ∷ es) (o ∷ os) old new are led runs sound lacks =
      elim (finds_along es os runs.between new (rows_behind hash e es o old runs.between runs.first are)
      (one_leads lead hash base e o old runs.between first runs.first led) runs.rest sound lacks) [
        | inl earlier ↦ elim (event_finds does steps hash base seat e o old runs.between first led runs.first
            sound_between earlier.at) [
              | inl before ↦ inl (record {
                at = before.at;
                same = none_of (is_at seat e && is_begun o) (begins_along seat es os) before.same earlier.same;
              })
              | inr finds ↦ inr (record {
                many = 0;
                event = e;
                is_event = refl;
                outcome = o;
                is_outcome = refl;
                before = old;
                first = refl;
                behind = runs.between;
                happens = runs.first;
                finds = finds;
                rest = runs.rest;
                same = earlier.same;
              })
            ]
        | inr later ↦ inr (record {
          many = suc later.many;
          event = later.event;
          is_event = later.is_event;
          outcome = later.outcome;
          is_outcome = later.is_outcome;
          before = later.before;
          first = record { between = runs.between; first = runs.first; rest = later.first };
          behind = later.behind;
          happens = later.happens;
          finds = later.finds;
          rest = later.rest;
          same = later.same;
        })
      ]
    where
      first : IsOfSeat (length old.locks) e
      first = All-head (IsOfSeat (length old.locks)) e es are

      sound_between : runs.between.failed ≡ false
      sound_between = or_first runs.between.failed (list_any tells_failure os)
          (sym (fails_along hash es os runs.between new runs.rest) ∙ sound)
