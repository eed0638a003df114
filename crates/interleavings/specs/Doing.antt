-- What a step of a seat does to the file and the locks of a kernel that refines a system, by what the seat is told.
-- docs/STEPS.md, "The kinds of step", "Calls".
use Rattle.std.specs.Prelude.{ℕ, ◌≡◌, ◌⊎◌, true, false, List, None, Some, length}
use Rattle.std.specs.List.{Contains}
use Rattle.file_pages.specs.Fault.{IsDevicesFault}
use Rattle.queue_records.specs.Spelling.{key_of, value_of}
use Rattle.queue_records.specs.declared.record.Record.{Record}
use Rattle.step_rules.specs.Turns.{DoesTied, StandsInWay}
use Rattle.step_rules.specs.declared.kind.Kind.{Kind}
use Rattle.interleaving_core.specs.Active.{BeginsAgain, is_waiting}
use Rattle.interleaving_core.specs.Owing.{is_failure}
use Rattle.interleaving_core.specs.Waiting.{is_woken}
use Rattle.interleaving_core.specs.declared.fault.StepFault.TheVariants as faults
use Rattle.interleaving_core.specs.declared.step.Step.TheVariants as steps
use Rattle.interleaving_core.specs.xsi_calls.Machine.{call_turn}
use Rattle.interleaving_core.specs.xsi_calls.Words.{Change, TrialLacksRoom, Turn, has_no_room, its_plan, trials_of, world}
use Rattle.interleaving_core.specs.xsi_calls.declared.conclusion.Conclusion.TheVariants as conclusions
use Rattle.interleavings.specs.Words.{ActiveView, Entry, FileFault, IsOver, KernelState, RecordKey, State, Step, after, call_at, conclusion_of, lacks_room, outcome, store_of}

-- the turn of a call at its place
abbrev pub turn_of : {K : Type 0} → (RecordKey → ℕ) → ActiveView → KernelState K → Turn
turn_of hash a k = call_turn hash a.machine (store_of k.pool.images)

-- a call moves by a step of the rules of this kind, made for its turn, from the phase before of a change of the
-- structure to the phase behind; so one page and one lock change at most, as the kind says
pub record MakesMove {K : Type 0} (hash : RecordKey → ℕ) (base : State) (seat : ℕ) (kind : Kind) (a come : ActiveView)
    (before behind : Change) (old new : KernelState K) : Type 0 where
  pub does : DoesTied hash (turn_of hash a old) kind seat (world old.pool.images old.locks before)
      (world new.pool.images new.locks behind)
  -- a record that it is to insert turns out to have no room only where it has none
  pub full : has_no_room a.machine.undecided ≡ false → has_no_room come.machine.undecided ≡ true →
      TrialLacksRoom hash (its_plan a.machine.call a.machine.undecided.questions)
      (trials_of a.machine.undecided).due (world new.pool.images new.locks before)
  -- it comes to waiting only where the rules have no answer in the system after the journal
  pub waits : conclusion_of a.machine ≡ None → conclusion_of come.machine ≡ Some conclusions.Waits →
      outcome a.machine.caller a.machine.call (after old.callers old.journal base) ≡ None

-- the file, the locks and the phase stay as they are
pub record LeavesAll {K : Type 0} (before behind : Change) (old new : KernelState K) : Type 0 where
  pub file : store_of new.pool.images ≡ store_of old.pool.images
  pub locks : new.locks ≡ old.locks
  pub phase : behind ≡ before

-- this other seat holds against what is asked
pub record IsInTheWay {K : Type 0} (hash : RecordKey → ℕ) (seat other : ℕ) (a : ActiveView) (before behind : Change)
    (old new : KernelState K) : Type 0 where
  pub stands : StandsInWay (turn_of hash a old).ask seat other (world old.pool.images old.locks before)
  pub leaves : LeavesAll before behind old new

-- a transfer of the device failed, and no page has changed
pub record FailsByDevice {K : Type 0} (fault : FileFault) (old new : KernelState K) : Type 0 where
  pub device : IsDevicesFault old.pool new.pool fault
  pub file : store_of new.pool.images ≡ store_of old.pool.images

-- a step of this call, of which its seat is told so, from one phase to the other
abbrev pub DoesBy : {K : Type 0} → (RecordKey → ℕ) → State → ℕ → ActiveView → Step → (before behind : Change) →
    (old new : KernelState K) → Type 0
DoesBy hash base seat by (steps.Moved kind) before behind old new =
    (come : ActiveView) × (call_at new.seats seat ≡ Some come) ×
    MakesMove hash base seat kind by come before behind old new
DoesBy hash base seat by (steps.Blocked other) before behind old new =
    IsInTheWay hash seat other by before behind old new
DoesBy hash base seat by steps.Waiting before behind old new = LeavesAll before behind old new
DoesBy hash base seat by (steps.Answered answer) before behind old new = LeavesAll before behind old new
DoesBy hash base seat by steps.Idle before behind old new = LeavesAll before behind old new
DoesBy hash base seat by (steps.Fault (faults.File fault)) before behind old new = FailsByDevice fault old new
DoesBy hash base seat by (steps.Fault faults.NoRoom) before behind old new = LeavesAll before behind old new

-- a call was decided to wait, and something has woken it before its seat could be told: it begins anew as this one
pub record BeginsWoken (journal : List Entry) (a by : ActiveView) : Type 0 where
  pub over : IsOver a.machine
  pub waits : is_waiting (conclusion_of a.machine) ≡ true
  pub woken : is_woken a.machine.call a.decided journal ≡ true
  pub begins : BeginsAgain a by

-- it is the call as it stands; one that was decided to wait and is over is then told so
pub record IsAsItStands (a by : ActiveView) (did : Step) : Type 0 where
  pub same : by ≡ a
  pub waits : IsOver a.machine → is_waiting (conclusion_of a.machine) ≡ true → did ≡ steps.Waiting

-- the record that a call was to insert next has no room in the file after its step, in the phase before it
abbrev pub FindsNoRoom : {K : Type 0} → (RecordKey → ℕ) → ActiveView → Change → KernelState K → Type 0
FindsNoRoom hash by before new =
    TrialLacksRoom hash (its_plan by.machine.call by.machine.undecided.questions) (trials_of by.machine.undecided).due
    (world new.pool.images new.locks before)

-- one of these records has the key of that one, and a value as long
pub record HasAsLong (rs : List Record) (r : Record) : Type 0 where
  pub entry : Record
  pub its : Contains rs entry
  pub keyed : key_of entry ≡ key_of r
  pub long : length (value_of entry) ≡ length (value_of r)

-- a call comes to lacking room by a trial that finds none, before its Decide
pub record ComesToLack {K : Type 0} (hash : RecordKey → ℕ) (by come : ActiveView) (before : Change)
    (new : KernelState K) : Type 0 where
  pub finds : FindsNoRoom hash by before new
  pub undecided : conclusion_of come.machine ≡ None
  -- by what it then knows it inserts a record as long
  pub its : HasAsLong (its_plan come.machine.call come.machine.undecided.questions).trials finds.entry

-- unless the step failed, a call that had room comes to lacking it only so
abbrev pub LacksRightly : {K : Type 0} → (RecordKey → ℕ) → ℕ → ActiveView → Step → Change → KernelState K → Type 0
LacksRightly hash seat by did before new =
    (come : ActiveView) → call_at new.seats seat ≡ Some come → is_failure did ≡ false →
    lacks_room by.machine ≡ false → lacks_room come.machine ≡ true → ComesToLack hash by come before new

-- a step of a seat with this call: it is one of that call, or of the same call begun anew
pub record DoesAsTold {K : Type 0} (hash : RecordKey → ℕ) (base : State) (seat : ℕ) (a : ActiveView) (did : Step)
    (before behind : Change) (old new : KernelState K) : Type 0 where
  pub by : ActiveView
  pub is : IsAsItStands a by did ⊎ BeginsWoken old.journal a by
  pub does : DoesBy hash base seat by did before behind old new
  pub lacks : LacksRightly hash seat by did before new
