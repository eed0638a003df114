-- What a step of a call does. docs/STEPS.md, "Calls".
use Rattle.std.specs.Prelude.{ℕ, ◌≡◌, ◌↔◌, true, false, not, Bool, Option, Some, None, IsSome, if◌then◌else◌, ⊤}
use Rattle.file_pages.specs.declared.fault.FileFault.{FileFault}
use Rattle.step_rules.specs.declared.kind.Kind.TheVariants.{Decide}
use Rattle.call_writes.specs.xsi_remove.Words.{StepHasCause}
use Rattle.call_writes.specs.xsi_remove.UnderWay.{StepsUnderWay}
use Rattle.xsi_calls.specs.declared.conclusion.Conclusion.{Conclusion}
use Rattle.xsi_calls.specs.Stages.{Stage, Undecided, Paying, Releasing}
use Rattle.xsi_calls.specs.Deciding.{IsDecidedIn}
use Rattle.xsi_calls.specs.Below.{counter_key, owes_at}
use Rattle.xsi_calls.specs.PaySteps.{KeepsPart, LeavesPart}
use Rattle.xsi_calls.specs.Words.{Blocked, Call, CanDecide, Change, Ended, Exclusive, Fault, IsBehind, IsPaid, IsReady, IsUndecided, Moved, NearsOrSpares, OnlyWrites, PaymentStage, Plan, PoolState, Progress, RecordKey, Records, Settled, State, Step, Table, TrialLacksRoom, UndecidedCall, begun_payment, finds_behind, guard_of, has_no_room, is_fault, is_write, its_plan, kind_of, overlaid, store_of, trials_of, with_row, world}
use Rattle.xsi_calls.specs.Concluding.{IsRightConclusion, conclusion_by}
use Rattle.xsi_calls.specs.Machine.{CallView, IsOver, IsReading, call_access, call_facts, call_left, call_locks, call_owes, call_turn, conclusion_of, finds_of, is_undecided}
use Rattle.xsi_calls.specs.Calling.{IsCalling, IsPayingCall, IsReleasing}

-- ---- whatever the device gives

-- it pays from its Decide on, writes nothing of its plan before its sweep has ended, and gives its names back once all
-- is paid
abbrev pub KeepsStage : {F : Type 0} → Plan → Progress F → (old new : Stage) → Type 0
KeepsStage p did Undecided Undecided = ⊤
KeepsStage p did Undecided (Paying payment conclusion) = ⊤
KeepsStage p did Undecided (Releasing conclusion) = ⊥
KeepsStage p did (Paying payment conclusion) Undecided = ⊥
KeepsStage p did (Paying payment conclusion) (Paying payment' conclusion') = KeepsPart p did payment payment'
KeepsStage p did (Paying payment conclusion) (Releasing conclusion') = IsPaid p payment
KeepsStage p did (Releasing conclusion) Undecided = ⊥
KeepsStage p did (Releasing conclusion) (Paying payment conclusion') = ⊥
KeepsStage p did (Releasing conclusion) (Releasing conclusion') = ⊤

pub record KeepsCall {F : Type 0} (did : Progress F) (old new : CallView) : Type 0 where
  pub caller : new.caller ≡ old.caller
  pub call : new.call ≡ old.call
  -- the bytes of its answer have room for as many
  pub most : new.undecided.questions.room.most ≡ old.undecided.questions.room.most
  -- it comes to something at its Decide alone
  pub decides : conclusion_of old ≡ None → IsSome (conclusion_of new) → did ≡ Moved Decide
  -- which it makes exactly where it can decide, unless it meets a fault
  pub can_decide : is_undecided old.stage ≡ true → is_fault did ≡ false →
      (IsSome (conclusion_of new) ↔ CanDecide old.call old.undecided)
  -- and once; with the bytes of its answer
  pub stays : (c : Conclusion) → conclusion_of old ≡ Some c → conclusion_of new ≡ Some c
  pub bytes : IsSome (conclusion_of new) → new.undecided.questions.room ≡ old.undecided.questions.room
  -- it has ended exactly where nothing is owed and no name is held, and stays so
  pub ended : (did ≡ Ended) ↔ IsOver old
  pub over : did ≡ Ended → IsOver new
  pub stage : KeepsStage (its_plan old.call old.undecided.questions) did old.stage new.stage
  -- before its Decide a search is counted where its seat was granted the directory to read, and none from then on
  pub finds : finds_of new ≡
      (if is_undecided old.stage then finds_behind did (call_locks new) (finds_of old) else finds_of old)

-- ---- on an honest device, in a sound world

-- before its Decide it has come so far by its own steps, after it it pays, or gives its names back
abbrev pub GoesOnAt : (RecordKey → ℕ) → ℕ → Call → State → UndecidedCall → Stage → Records → PoolState → Table →
    Change → Type 0
GoesOnAt hash seat call s u Undecided records pool locks change =
    IsBehind hash seat call s u.questions u.trials records pool locks change
GoesOnAt hash seat call s u (Paying payment conclusion) records pool locks change =
    IsPayingCall hash seat call u payment records pool locks change
GoesOnAt hash seat call s u (Releasing conclusion) records pool locks change =
    IsReleasing hash seat call u.questions.names pool locks change

-- the records after a step that pays are those which its sweep, or the deed that is due, leaves
abbrev pub LeavesStage : Plan → (old new : Stage) → (records after : Records) → Type 0
LeavesStage p (Paying payment conclusion) (Paying payment' conclusion') records after =
    LeavesPart p payment payment' records after
LeavesStage p old new records after = ⊤

-- a step of the rules, behind which these records stand
pub record StepsCall {F : Type 0} (hash : RecordKey → ℕ) (seat : ℕ) (s : State) (did : Progress F)
    (old new : CallView) (records : Records) (pool pool' : PoolState) (locks locks' : Table) (change : Change)
    : Type 0 where
  pub step : Step hash seat (call_turn hash old (store_of pool.images)) did (call_facts new) pool pool' locks locks'
      change
  pub after : Records
  pub still : is_write did ≡ false → after ≡ records
  -- where it neither tries nor pays no record is written
  pub reads : IsReading new.undecided.trials new.stage → is_write did ≡ false
  -- a record whose name it does not hold Exclusive stays
  pub elsewhere : (key : RecordKey) → (kind_of new.undecided.questions.names (guard_of key) ≡ Some Exclusive → ⊥) →
      after key ≡ records key
  pub leaves : LeavesStage (its_plan old.call old.undecided.questions) old.stage new.stage records after
  -- what will stand once nothing is owed is the same, but at its Decide
  pub owed : conclusion_of new ≡ conclusion_of old → (key : RecordKey) →
      overlaid (call_owes new) after key ≡ overlaid (call_owes old) records key
  -- while it still owes the Counter, that stands as it stood
  pub counter : conclusion_of new ≡ conclusion_of old → owes_at (call_owes new) counter_key ≡ true →
      after counter_key ≡ records counter_key
  -- there it comes to what the rules say
  pub concludes : conclusion_of old ≡ None → (c : Conclusion) → conclusion_of new ≡ Some c →
      IsRightConclusion new.caller new.call s new.undecided.questions.room.bytes new.undecided.questions.names
      (has_no_room old.undecided) (call_owes old) (call_owes new) after c
  pub behind : GoesOnAt hash seat new.call s new.undecided new.stage after pool' locks' step.after
  -- a trial turns to having no room only where there is none for its record
  pub full : has_no_room old.undecided ≡ false → has_no_room new.undecided ≡ true →
      TrialLacksRoom hash (its_plan old.call old.undecided.questions) (trials_of old.undecided).due
      (world pool'.images locks' change)

-- ---- the Decide, after the last step of what a call asks and tries

-- over each system of which it knows what it was told it comes to this as it may, and so much is to be paid
pub record ComesTo (hash : RecordKey → ℕ) (call : Call) (stopped : Bool) (conclusion : Conclusion)
    (old new : UndecidedCall) (payment : PaymentStage) : Type 0 where
  pub settled : Option Settled
  pub decided : (seat : ℕ) (s : State) (records : Records) (pool : PoolState) (locks : Table) (change : Change) →
      IsUndecided hash seat call s old records pool locks change → s.stopped ≡ stopped →
      IsDecidedIn hash seat call s old.questions settled (trials_of old) records pool locks change
  pub questions : new.questions ≡ old.questions
  -- its trials are taken out
  pub untried : new.trials ≡ None
  pub comes : conclusion ≡ conclusion_by settled
  pub pays : payment ≡ begun_payment hash settled (trials_of old).due

-- it was told what no system has
pub record HasNoSystem (hash : RecordKey → ℕ) (call : Call) (stopped : Bool) (old new : UndecidedCall) : Type 0 where
  pub never : (seat : ℕ) (s : State) (records : Records) (pool : PoolState) (locks : Table) (change : Change) →
      IsUndecided hash seat call s old records pool locks change → s.stopped ≡ stopped → ⊥
  pub questions : new.questions ≡ old.questions
  pub untried : new.trials ≡ None

abbrev pub is_end : {F : Type 0} → Progress F → Bool
is_end (Moved kind) = false
is_end (Blocked other) = false
is_end (Fault fault) = false
is_end Ended = true

-- one step at the pseudokeys that this function gives, with this stop mark
pub record MakesCall (hash : RecordKey → ℕ) (seat : ℕ) (stopped : Bool) (did : Progress FileFault) (old new : CallView)
    (pool pool' : PoolState) (locks locks' : Table) : Type 0 where
  -- whatever the device gives
  pub writes : OnlyWrites (not (is_fault did)) pool pool'
  -- the fault of a transfer is told only where one has failed
  pub cause : StepHasCause did pool pool'
  pub aim : KeepsCall did old new
  pub row : locks' ≡ with_row locks seat (call_locks new)
  -- on an honest device, in a sound world
  pub progress : (s : State) (records : Records) (change : Change) →
      IsCalling hash seat s old records pool locks change → s.stopped ≡ stopped →
      NearsOrSpares did (call_left old (store_of pool.images)) (call_left new (store_of pool'.images)) pool pool'
  pub step : (s : State) (records : Records) (change : Change) →
      IsCalling hash seat s old records pool locks change → s.stopped ≡ stopped → is_fault did ≡ false →
      StepsCall hash seat s did old new records pool pool' locks locks' change
  -- a delete under way turns away from its merge only where none can be made, and is let go only where it has ended
  pub turns_away : (s : State) (records : Records) (change : Change) →
      IsCalling hash seat s old records pool locks change → s.stopped ≡ stopped → is_fault did ≡ false →
      StepsUnderWay hash seat did (call_access old) (call_access new) pool pool' locks locks' change

-- a step that meets no page, and no fault
pub record MakesRelease (seat : ℕ) (did : Progress FileFault) (old new : CallView) (locks locks' : Table) : Type 0 where
  pub fine : is_fault did ≡ false
  pub makes : (hash : RecordKey → ℕ) (stopped : Bool) (pool : PoolState) → IsReady pool →
      MakesCall hash seat stopped did old new pool pool locks locks'
