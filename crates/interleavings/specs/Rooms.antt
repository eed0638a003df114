-- Why a seat is told that a record has no room: at a step of the run its call found none in the file as that then was.
-- docs/STEPS.md, "Insert, Replace, Delete"; docs/FAULTS.md.
use Rattle.std.specs.Prelude.{ℕ, suc, ◌≡◌, ◌+◌, ◌⊎◌, true, false, List, Some, drop, slice_get, take}
use Rattle.step_rules.specs.declared.kind.Kind.{Kind}
use Rattle.interleaving_core.specs.Owing.{is_failure}
use Rattle.interleaving_core.specs.declared.step.Step.TheVariants as steps
use Rattle.interleavings.specs.Words.{ActiveView, IsDriven, IsStep, KernelState, Moves, RecordKey, State, Step, call_at, lacks_room}
use Rattle.interleavings.specs.Doing.{ComesToLack}
use Rattle.interleavings.specs.Laws.{RefinesOn}
use Rattle.interleavings.specs.Outcomes.{begins_along, lapsed_by}
use Rattle.interleavings.specs.Refining.{Refines}
use Rattle.interleavings.specs.Runs.{Happens, Runs, is_at}
use Rattle.interleavings.specs.declared.event.Event.{Event}
use Rattle.interleavings.specs.declared.event.Event.TheVariants as events
use Rattle.interleavings.specs.declared.event.Outcome.{Outcome}
use Rattle.interleavings.specs.declared.event.Outcome.TheVariants as outcomes

-- ---- where it is found

-- by this step of a seat, on a kernel that refines a system: a record that its call was to insert has no room in the
-- pages of the kernel
pub record FindsByStep {K : Type 0} (hash : RecordKey → ℕ) (base : State) (seat : ℕ) (did : Step)
    (old new : KernelState K) : Type 0 where
  pub refines : Refines hash base old
  pub sound : old.failed ≡ false
  pub step : IsStep hash seat did old new
  -- the call that it has under way, or the same begun anew, makes that step by the rules
  pub active : ActiveView
  pub there : call_at old.seats seat ≡ Some active
  pub on : RefinesOn hash base seat active did (refines.together sound).calls.change old new
  -- it goes on, and lacks room
  pub fine : is_failure did ≡ false
  pub come : ActiveView
  pub left : call_at new.seats seat ≡ Some come
  pub lacking : lacks_room come.machine ≡ true
  pub lacks : ComesToLack hash on.does.by come (refines.together sound).calls.change new

-- by one of so many steps of a seat, each of which moves
pub record FindsByMove {K : Type 0} (hash : RecordKey → ℕ) (base : State) (seat moves : ℕ) (old new : KernelState K)
    : Type 0 where
  -- after so many of them
  pub earlier : ℕ
  pub before : KernelState K
  pub moved : Moves hash seat earlier old before
  pub kind : Kind
  pub behind : KernelState K
  pub finds : FindsByStep hash base seat (steps.Moved kind) before behind
  -- and before so many
  pub later : ℕ
  pub moves_on : Moves hash seat later behind new
  pub all : moves ≡ earlier + suc later

-- by a step of a drive, the last one included
pub record FindsByDrive {K : Type 0} (hash : RecordKey → ℕ) (base : State) (seat : ℕ) (did : Step)
    (old new : KernelState K) : Type 0 where
  pub driven : IsDriven hash seat did old new
  pub finds : FindsByMove hash base seat driven.moves old driven.before
      ⊎ FindsByStep hash base seat did driven.before new

-- by an event of this seat
abbrev pub FindsBy : {K : Type 0} → (RecordKey → ℕ) → State → ℕ → Event → Outcome → (old new : KernelState K) → Type 0
FindsBy hash base seat (events.Step other) (outcomes.Stepped did) old new =
    (other ≡ seat) × FindsByStep hash base seat did old new
FindsBy hash base seat (events.Drive other) (outcomes.Driven did) old new =
    (other ≡ seat) × FindsByDrive hash base seat did old new
FindsBy hash base seat _ _ old new = ⊥

-- ---- and is so of the same call

-- an event among these finds it for the call that its seat has under way after them
pub record FindsAlong {K : Type 0} (hash : RecordKey → ℕ) (base : State) (seat : ℕ) (es : List Event)
    (os : List Outcome) (old new : KernelState K) : Type 0 where
  -- after so many others
  pub many : ℕ
  pub event : Event
  pub is_event : slice_get es many ≡ Some event
  pub outcome : Outcome
  pub is_outcome : slice_get os many ≡ Some outcome
  pub before : KernelState K
  pub first : Runs hash (take many es) (take many os) old before
  pub behind : KernelState K
  pub happens : Happens hash event outcome before behind
  pub finds : FindsBy hash base seat event outcome before behind
  pub rest : Runs hash (drop (suc many) es) (drop (suc many) os) behind new
  -- no other call has begun there since
  pub same : begins_along seat (drop (suc many) es) (drop (suc many) os) ≡ false

-- it had been found already for the call that its seat had under way before these events
pub record HadFound {K : Type 0} (seat : ℕ) (es : List Event) (os : List Outcome) (old : KernelState K) : Type 0 where
  pub active : ActiveView
  pub there : call_at old.seats seat ≡ Some active
  pub lacked : lacks_room active.machine ≡ true
  pub same : begins_along seat es os ≡ false

-- ---- why it is told

-- the event after so many others tells it: that event found it itself, or one before it did
pub record HasFoundNoRoom {K : Type 0} (hash : RecordKey → ℕ) (base : State) (seat many : ℕ) (e : Event) (o : Outcome)
    (es : List Event) (os : List Outcome) (old new : KernelState K) : Type 0 where
  pub before : KernelState K
  pub first : Runs hash (take many es) (take many os) old before
  pub behind : KernelState K
  pub happens : Happens hash e o before behind
  pub rest : Runs hash (drop (suc many) es) (drop (suc many) os) behind new
  pub found : FindsBy hash base seat e o before behind
      ⊎ FindsAlong hash base seat (take many es) (take many os) old before
      ⊎ HadFound seat (take many es) (take many os) old

-- a seat is told that a record has no room for no other reason
abbrev pub TellsNoRoomRightly : {K : Type 0} → (RecordKey → ℕ) → List Event → List Outcome → (old new : KernelState K) →
    Type 0
TellsNoRoomRightly hash es os old new =
    (base : State) → Refines hash base old → (seat many : ℕ) (e : Event) (o : Outcome) →
    slice_get es many ≡ Some e → slice_get os many ≡ Some o → is_at seat e ≡ true → lapsed_by o ≡ 1 →
    HasFoundNoRoom hash base seat many e o es os old new
