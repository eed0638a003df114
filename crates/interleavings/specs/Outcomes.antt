-- What comes of events: which calls seats have under way, why a call does not begin, and what a seat is told of a step,
-- told by what came of the events before. docs/STEPS.md, "Calls"; docs/FAULTS.md.
use Rattle.std.specs.Prelude.{ℕ, ◌≡◌, ◌≢◌, ◌↔◌, ◌+◌, ◌≤◌, Bool, true, false, ◌&&◌, ◌||◌, if◌then◌else◌, List, [], ◌∷◌, Option, Some, None, ⊤}
use Rattle.file_pages.specs.Fault.{IsOfPage}
use Rattle.file_pages.specs.declared.fault.FileFault.{FileFault}
use Rattle.file_pages.specs.declared.fault.FileFault.TheVariants.{Failed}
use Rattle.interleaving_core.specs.Owing.{IsMove, is_end, is_failure, lapsed}
use Rattle.interleaving_core.specs.declared.fault.BeginFault.{BeginFault}
use Rattle.interleaving_core.specs.declared.fault.BeginFault.TheVariants as refusals
use Rattle.interleaving_core.specs.declared.fault.StepFault.TheVariants as faults
use Rattle.interleaving_core.specs.declared.kernel.TheConstants.{MAX_DECIDED}
use Rattle.interleaving_core.specs.declared.step.Step.TheVariants as steps
use Rattle.interleavings.specs.Words.{Call, Step}
use Rattle.interleavings.specs.Runs.{is_at}
use Rattle.interleavings.specs.declared.event.Event.{Event}
use Rattle.interleavings.specs.declared.event.Event.TheVariants as events
use Rattle.interleavings.specs.declared.event.Outcome.{Outcome}
use Rattle.interleavings.specs.declared.event.Outcome.TheVariants as outcomes

-- ---- the calls of seats

-- the call that a seat has under way once it was told this
abbrev pub unless_over : Step → Option Call → Option Call
unless_over did call = if is_end did then None else call

-- after an event of the seat
abbrev pub call_behind : Event → Outcome → Option Call → Option Call
call_behind (events.Begin seat call) outcomes.Begun under_way = Some call
call_behind (events.Step seat) (outcomes.Stepped did) under_way = unless_over did under_way
call_behind (events.Drive seat) (outcomes.Driven did) under_way = unless_over did under_way
call_behind _ _ under_way = under_way

-- after an event of whichever seat
abbrev pub call_left : ℕ → Event → Outcome → Option Call → Option Call
call_left seat e o under_way = if is_at seat e then call_behind e o under_way else under_way

-- after events with these outcomes
abbrev pub call_along : ℕ → Option Call → List Event → List Outcome → Option Call
call_along seat under_way (e ∷ es) (o ∷ os) = call_along seat (call_left seat e o under_way) es os
call_along seat under_way _ _ = under_way

-- where it had none before
abbrev pub call_under_way : ℕ → List Event → List Outcome → Option Call
call_under_way seat es os = call_along seat None es os

-- one begins by it
abbrev pub is_begun : Outcome → Bool
is_begun outcomes.Begun = true
is_begun _ = false

-- at this seat, by one of these events
abbrev pub begins_along : ℕ → List Event → List Outcome → Bool
begins_along seat (e ∷ es) (o ∷ os) = (is_at seat e && is_begun o) || begins_along seat es os
begins_along seat _ _ = false

-- ---- the calls that may hold locks

-- it has moved, or another seat blocks it
abbrev pub is_on_way : Step → Bool
is_on_way (steps.Moved kind) = true
is_on_way (steps.Blocked other) = true
is_on_way _ = false

-- after an event of the seat: by what its call was told last, if it was told anything
abbrev pub on_way_behind : Event → Outcome → Bool → Bool
on_way_behind (events.Begin seat call) outcomes.Begun on_way = false
on_way_behind (events.Step seat) (outcomes.Stepped did) on_way = is_on_way did
on_way_behind (events.Drive seat) (outcomes.Driven did) on_way = is_on_way did
on_way_behind _ _ on_way = on_way

-- after an event of whichever seat
abbrev pub on_way_left : ℕ → Event → Outcome → Bool → Bool
on_way_left seat e o on_way = if is_at seat e then on_way_behind e o on_way else on_way

-- after events with these outcomes
abbrev pub on_way_along : ℕ → Bool → List Event → List Outcome → Bool
on_way_along seat on_way (e ∷ es) (o ∷ os) = on_way_along seat (on_way_left seat e o on_way) es os
on_way_along seat on_way _ _ = on_way

-- where it had no call before
abbrev pub may_hold_locks : ℕ → List Event → List Outcome → Bool
may_hold_locks seat es os = on_way_along seat false es os

-- ---- outcomes of events

-- a seat was told of a failure of the file
abbrev pub tells_failure : Outcome → Bool
tells_failure (outcomes.Stepped did) = is_failure did
tells_failure (outcomes.Driven did) = is_failure did
tells_failure _ = false

-- what outcomes tell so far
pub record SoFar : Type 0 where
  -- a step has failed
  pub broken : Bool
  -- the call that each seat has under way
  pub under_way : ℕ → Option Call
  -- how many calls began, and how many of these are over since a record had no room
  pub begun : ℕ
  pub lapsed : ℕ

abbrev pub nothing_yet : SoFar
nothing_yet = record { broken = false; under_way = λ seat. None; begun = 0; lapsed = 0 }

abbrev pub begun_by : Outcome → ℕ
begun_by outcomes.Begun = 1
begun_by _ = 0

abbrev pub lapsed_by : Outcome → ℕ
lapsed_by (outcomes.Stepped did) = lapsed did
lapsed_by (outcomes.Driven did) = lapsed did
lapsed_by _ = 0

-- after an event with this outcome
abbrev pub so_far_behind : Event → Outcome → SoFar → SoFar
so_far_behind e o s = record {
  broken = s.broken || tells_failure o;
  under_way = λ seat. call_left seat e o (s.under_way seat);
  begun = s.begun + begun_by o;
  lapsed = s.lapsed + lapsed_by o;
}

-- the calls that are decided and those under way are as many as one session may decide
abbrev pub HasAllCalls : SoFar → Type 0
HasAllCalls s = MAX_DECIDED + s.lapsed ≤ s.begun

-- no step has failed, the seat has no call under way, and the session is not full
pub record IsFreeFor (under_way : Option Call) (s : SoFar) : Type 0 where
  pub sound : s.broken ≡ false
  pub free : under_way ≡ None
  pub few : HasAllCalls s → ⊥

-- why a call does not begin: it is refused by the first of these that is so
abbrev pub IsRefusedFor : BeginFault → Option Call → SoFar → Type 0
IsRefusedFor refusals.Failed under_way s = s.broken ≡ true
IsRefusedFor refusals.Busy under_way s = (s.broken ≡ false) × (under_way ≢ None)
IsRefusedFor refusals.SessionFull under_way s = (s.broken ≡ false) × (under_way ≡ None) × HasAllCalls s
IsRefusedFor refusals.NoMemory under_way s = IsFreeFor under_way s

-- what a seat with this call, or with none, is told of a step
pub record IsToldByStep (broken : Bool) (did : Step) (under_way : Option Call) : Type 0 where
  pub idle : (did ≡ steps.Idle) ↔ (under_way ≡ None)
  -- once a step has failed each call is told of it, and of nothing else
  pub failed : broken ≡ true → under_way ≢ None → did ≡ steps.Fault (faults.File Failed)
  -- of the file it is told what a page or a transfer may come to, never that there is no memory
  pub page : (fault : FileFault) → did ≡ steps.Fault (faults.File fault) → IsOfPage fault

-- of an event
abbrev pub MayCome : SoFar → Event → Outcome → Type 0
MayCome s (events.Begin seat call) outcomes.Begun = IsFreeFor (s.under_way seat) s
MayCome s (events.Begin seat call) (outcomes.Refused back fault) =
    (back ≡ call) × IsRefusedFor fault (s.under_way seat) s
MayCome s (events.Step seat) (outcomes.Stepped did) = IsToldByStep s.broken did (s.under_way seat)
MayCome s (events.Drive seat) (outcomes.Driven did) =
    IsToldByStep s.broken did (s.under_way seat) × (IsMove did → ⊥)
MayCome s events.Stop outcomes.Stopped = ⊤
MayCome s _ _ = ⊥

-- one for each event, in their order
abbrev pub AreOutcomes : SoFar → List Event → List Outcome → Type 0
AreOutcomes s [] [] = ⊤
AreOutcomes s (e ∷ es) (o ∷ os) = MayCome s e o × AreOutcomes (so_far_behind e o s) es os
AreOutcomes s _ _ = ⊥
