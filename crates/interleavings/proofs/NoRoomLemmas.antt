-- A seat is told that a record has no room only where its call lacked it.
use Rattle.std.proofs.Common.{ℕ, ◌≡◌, ◌⊎◌, inl, inr, refl, sym, ap, ◌∙◌, subst, Bool, true, false, true≢false, List, Option, Some, None, length, take}
use Rattle.std.proofs.lemmas.Bool.{eqb-true}
use Rattle.std.proofs.lemmas.Option.{get_or_from_slice_get, slice_get_within}
use Rattle.std.proofs.lemmas.List.Elements.{All-take}
use Rattle.interleavings.proofs.EventLemmas.{places_along}
use Rattle.interleavings.proofs.LackingLemmas.{fresh_room, over_concluded}
use Rattle.interleavings.specs.Serving.{lacks_by}
use Rattle.step_rules.specs.declared.progress.Progress.TheVariants as progress
use Rattle.interleaving_core.proofs.AnewLemmas.{begins_from}
use Rattle.interleaving_core.specs.Active.{is_waiting}
use Rattle.interleaving_core.specs.Owing.{failed, lapsed, told_of_failure}
use Rattle.interleaving_core.specs.Turn.{MakesTurn, TakesTurn, TurnsAnew, told_of, told_when_over}
use Rattle.interleaving_core.specs.Waiting.{stays_waiting}
use Rattle.interleaving_core.specs.declared.fault.StepFault.TheVariants as faults
use Rattle.interleaving_core.specs.declared.step.Step.TheVariants as steps
use Rattle.interleaving_core.specs.xsi_calls.CallSteps.{KeepsCall}
use Rattle.interleaving_core.specs.xsi_calls.Machine.{answer_by}
use Rattle.interleaving_core.specs.xsi_calls.Words.{has_no_room}
use Rattle.interleaving_core.specs.xsi_calls.declared.conclusion.Conclusion.{Conclusion}
use Rattle.interleaving_core.specs.xsi_calls.declared.conclusion.Conclusion.TheVariants as conclusions
use Rattle.interleavings.specs.Words.{ActiveView, Answer, FileFault, IsDriven, IsSeat, IsStep, KernelState, PoolState, Progress, RecordKey, State, Step, Table, Entry, call_at, conclusion_of, lacks_room}
use Rattle.interleavings.specs.Laws.{EventsRefine, StepsRefine, StepsRefineAndDo}
use Rattle.interleavings.specs.Outcomes.{lapsed_by}
use Rattle.interleavings.specs.Refining.{Refines}
use Rattle.interleavings.specs.Rooms.{FindsBy, FindsByDrive, TellsNoRoomRightly}
use Rattle.interleavings.specs.Runs.{AreOfSeats, Happens, IsOfSeat, Runs, is_at}
use Rattle.interleavings.specs.declared.event.Event.{Event}
use Rattle.interleavings.specs.declared.event.Event.TheVariants as events
use Rattle.interleavings.specs.declared.event.Outcome.{Outcome}
use Rattle.interleavings.specs.declared.event.Outcome.TheVariants as outcomes
use Rattle.interleavings.proofs.TellingLemmas.{HasEvent, event_at}
use Rattle.interleavings.proofs.UnderWayLemmas.{moves_fail_not}
use Rattle.interleavings.proofs.RoomLemmas.{LacksAt, finds_along, moves_find}

-- ---- it is told

abbrev pub no_room : Step
no_room = steps.Fault faults.NoRoom

no_room_answers : (answer : Answer) → no_room ≡ steps.Answered answer → ⊥
no_room_answers answer told = cc

no_room_waits : no_room ≡ steps.Waiting → ⊥
no_room_waits told = cc

no_room_idle : no_room ≡ steps.Idle → ⊥
no_room_idle told = cc

no_room_failed : (at : Option ActiveView) → no_room ≡ told_of_failure at → ⊥
no_room_failed None told = cc
no_room_failed (Some a) told = cc

module _ (hash : RecordKey → ℕ) (seat : ℕ) (stopped : Bool) (a : ActiveView) (left : Option ActiveView)
    (pool pool' : PoolState) (locks locks' : Table) (journal journal' : List Entry) where
  by_end : (o : Conclusion) (bytes : List ℕ) → conclusion_of a.machine ≡ Some o →
      no_room ≡ told_when_over (is_waiting (Some o)) (answer_by (Some o) bytes) → lacks_room a.machine ≡ true
  by_end (conclusions.Answers verdict) bytes is told = absurd (no_room_answers _ told)
  by_end conclusions.Waits bytes is told = absurd (no_room_waits told)
  by_end conclusions.HasNoRoom bytes is told =
      ap (λ (x : Option Conclusion). lacks_by x (has_no_room a.machine.undecided)) is

  over_by : (come : ActiveView) → KeepsCall {F = FileFault} progress.Ended a.machine come.machine →
      no_room ≡ told_of progress.Ended come.machine → (o : Option Conclusion) → conclusion_of a.machine ≡ o →
      lacks_room a.machine ≡ true
  over_by come aim told None is = absurd (over_concluded a.machine (aim.ended.0 refl) is)
  over_by come aim told (Some o) is = by_end o come.machine.undecided.questions.room.bytes is
      (told ∙ ap (λ (x : Option Conclusion). told_when_over (is_waiting x)
      (answer_by x come.machine.undecided.questions.room.bytes)) (aim.stays o is))

  made_lacking : MakesTurn hash seat stopped no_room a left pool pool' locks locks' journal journal' →
      lacks_room a.machine ≡ true
  made_lacking t = by t.did t.makes.aim t.told_is
    where
      by : (p : Progress FileFault) → KeepsCall p a.machine t.come.machine → no_room ≡ told_of p t.come.machine →
          lacks_room a.machine ≡ true
      by (progress.Moved kind) aim told = absurd cc
      by (progress.Blocked other) aim told = absurd cc
      by (progress.Fault fault) aim told = absurd cc
      by progress.Ended aim told = over_by t.come aim told (conclusion_of a.machine) refl

module _ (hash : RecordKey → ℕ) (seat : ℕ) (stopped : Bool) (a : ActiveView) (left : Option ActiveView)
    (pool pool' : PoolState) (locks locks' : Table) (journal journal' : List Entry) where
  takes_lacking : TakesTurn hash seat stopped no_room a left pool pool' locks locks' journal journal' →
      lacks_room a.machine ≡ true
  takes_lacking takes = by (stays_waiting a.wait a.machine.call journal) refl
    where
      by : (b : Bool) → stays_waiting a.wait a.machine.call journal ≡ b → lacks_room a.machine ≡ true
      by true stays = absurd (no_room_waits (takes.waits stays).told_is)
      by false woken = elim (takes.goes woken) [
        | inl made ↦ made_lacking hash seat stopped a left pool pool' locks locks' journal journal' made.0
        | inr anew ↦ absurd (never anew)
      ]
        where
          -- one that has just begun anew lacks none
          never : TurnsAnew hash seat stopped no_room a left pool pool' locks locks' journal journal' → ⊥
          never anew = by_wait (stays_waiting anew.again.wait anew.again.machine.call journal) refl
            where
              fresh : lacks_room anew.again.machine ≡ false
              fresh = fresh_room anew.again.machine (begins_from hash seat stopped a anew.again pool anew.between
                  locks locks journal journal anew.ends).begins.new

              by_wait : (b : Bool) → stays_waiting anew.again.wait anew.again.machine.call journal ≡ b → ⊥
              by_wait true stays = no_room_waits (anew.waits stays).told_is
              by_wait false goes = true≢false (sym (made_lacking hash seat stopped anew.again left anew.between pool'
                  locks locks' journal journal' (anew.goes goes).0) ∙ fresh)

-- no step had failed, and its call lacked room
pub record LacksSoundly {K : Type 0} (seat : ℕ) (k : KernelState K) : Type 0 where
  pub sound : k.failed ≡ false
  pub at : LacksAt seat k

pub step_told : {K : Type 0} (hash : RecordKey → ℕ) (seat : ℕ) (old new : KernelState K) →
    IsStep hash seat no_room old new → LacksSoundly seat old
step_told hash seat old new step = by old.failed refl (call_at old.seats seat) refl
  where
    by : (b : Bool) → old.failed ≡ b → (at : Option ActiveView) → call_at old.seats seat ≡ at → LacksSoundly seat old
    by true broken at there = absurd (no_room_failed (call_at old.seats seat) (step.turn.fails broken))
    by false sound None none = absurd (no_room_idle (step.turn.idle.1 none))
    by false sound (Some a) there = record {
      sound = sound;
      at = record {
        active = a;
        there = there;
        lacked = takes_lacking hash seat old.stopped a (call_at new.seats seat) old.pool new.pool old.locks new.locks
            old.journal new.journal (step.makes a there sound);
      };
    }

lapse_is : (did : Step) → lapsed did ≡ 1 → did ≡ no_room
lapse_is (steps.Fault faults.NoRoom) is = refl
lapse_is _ is = absurd cc

module _ {K : Type 0} (does : StepsRefineAndDo K) (steps_on : StepsRefine K) (hash : RecordKey → ℕ) (base : State)
    (seat : ℕ) (old new : KernelState K) (led : Refines hash base old) where
  abbrev pub Told : Event → Outcome → Type 0
  Told e o = LacksSoundly seat old ⊎ FindsBy hash base seat e o old new

  drive_told : (did : Step) → IsSeat old.locks seat → did ≡ no_room → IsDriven hash seat did old new →
      LacksSoundly seat old ⊎ FindsByDrive hash base seat did old new
  drive_told did is told driven = elim driven.ends [
    | inl rests ↦
        let last = step_told hash seat driven.before new
        (subst (λ (d : Step). IsStep hash seat d driven.before new) told rests.step) in
        elim (moves_find does hash base seat steps_on old led is driven.moves driven.before driven.moved last.sound
        last.at) [
          | inl first ↦ inl (record {
            sound = sym (moves_fail_not hash seat old driven.moves driven.before driven.moved) ∙ last.sound;
            at = first;
          })
          | inr found ↦ inr (record { driven = driven; finds = inl found })
        ]
    | inr spent ↦ absurd (apart (sym told ∙ spent.told))
  ]
    where
      apart : no_room ≡ failed → ⊥
      apart clash = cc

  pub event_told : (e : Event) (o : Outcome) → IsOfSeat (length old.locks) e → Happens hash e o old new →
      is_at seat e ≡ true → lapsed_by o ≡ 1 → Told e o
  event_told (events.Step other) (outcomes.Stepped did) is step here lapses =
      let same = eqb-true other seat here in
      inl (step_told hash seat old new (subst (λ (n : ℕ). IsStep hash n no_room old new) same
      (subst (λ (d : Step). IsStep hash other d old new) (lapse_is did lapses) step)))
  event_told (events.Drive other) (outcomes.Driven did) is drives here lapses =
      let same = eqb-true other seat here in
      elim (drive_told did (subst (IsSeat old.locks) same is) (lapse_is did lapses)
      (subst (λ (n : ℕ). IsDriven hash n did old new) same drives.driven)) [
        | inl lacks ↦ inl lacks
        | inr finds ↦ inr (same, finds)
      ]
  event_told (events.Begin other call) outcomes.Begun is happens here lapses = absurd cc
  event_told (events.Begin other call) (outcomes.Refused back fault) is happens here lapses = absurd cc
  event_told events.Stop outcomes.Stopped is happens here lapses = absurd cc
  event_told _ _ is never here lapses = absurd never

-- ---- the whole of it

pub tells_no_room : {K : Type 0} → StepsRefineAndDo K → StepsRefine K → EventsRefine K → (hash : RecordKey → ℕ) →
    (es : List Event) (os : List Outcome) (old new : KernelState K) → AreOfSeats (length old.locks) es →
    Runs hash es os old new → TellsNoRoomRightly hash es os old new
tells_no_room {K} does steps_on lead hash es os old new are runs base led seat many e o is_e is_o here lapses = record {
  before = at.before;
  first = at.first;
  behind = at.behind;
  happens = at.happens;
  rest = at.rest;
  found = elim (event_told does steps_on hash base seat at.before at.behind led_before e o its_seat at.happens here
      lapses) [
        | inl lacks ↦ inr (elim (finds_along does steps_on lead hash base seat (take many es) (take many os) old
            at.before are_before led at.first lacks.sound lacks.at) [
              | inl had ↦ inr (record {
                active = had.at.active;
                there = had.at.there;
                lacked = had.at.lacked;
                same = had.same;
              })
              | inr found ↦ inl found
            ])
        | inr finds ↦ inl finds
      ];
}
  where
    at : HasEvent hash many es os e o old new
    at = event_at hash many es os e o old new runs is_e is_o

    are_before : AreOfSeats (length old.locks) (take many es)
    are_before = All-take (IsOfSeat (length old.locks)) many es are

    led_before : Refines hash base at.before
    led_before = lead hash base (take many es) (take many os) old at.before are_before led at.first

    its_seat : IsOfSeat (length at.before.locks) e
    its_seat = subst (λ (n : ℕ). IsOfSeat n e)
        (sym (places_along hash (take many es) (take many os) old at.before at.first).seats)
        (subst (IsOfSeat (length old.locks)) (get_or_from_slice_get es many e e is_e)
        (are many e (slice_get_within es many e is_e)))
