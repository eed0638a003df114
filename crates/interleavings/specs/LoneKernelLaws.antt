-- Laws of calls that are made one at a time on a kernel. Each is the contract of a function of lone_kernel_laws.rt.
use Rattle.std.specs.Prelude.{ℕ, ◌≡◌, ◌≤◌, ◌⊎◌, Bool, true, false, IsTrue, List, Some, length}
use Rattle.page_locks.specs.declared.lock_table.TheConstants.{MAX_SEATS}
use Rattle.step_rules.specs.declared.kind.Kind.{Kind}
use Rattle.interleaving_core.specs.declared.fault.StepFault.TheVariants as faults
use Rattle.interleaving_core.specs.declared.step.Step.TheVariants as steps
use Rattle.interleavings.specs.LoneKernelWords.{ActiveView, Answer, BeginFault, Call, Caller, FoundNoRoom, HasCall, HasRisen, IsDriven, IsFileOf, IsFlushedTo, IsMove, IsOpened, IsRefused, IsSeat, IsSpent, IsStep, IsStopped, IsTurn, IsWhole, KernelState, MOST_CALL_STEPS, Moves, RecordKey, State, Step, TakesTurn, call_at, caller_at, is_failure, lacks_room, outcome, restarted}
use Rattle.interleavings.specs.Lone.{RestsOver, ServesOver, WaitsOver}

-- ---- it is opened

-- by what Kernel::open promises of an honest device
abbrev pub OpensAKernel : Type 0 → Type 0
OpensAKernel K = (hash : RecordKey → ℕ) (keys : K) (content : List (List ℕ)) (honest : Bool) (callers : List Caller)
    (frames : ℕ) (k : KernelState K) → IsOpened keys content honest callers frames k → IsTrue honest →
    (s : State) → IsFileOf hash content s → 1 ≤ length callers → length callers ≤ MAX_SEATS → RestsOver hash s k

-- ---- a call begins

-- by what Kernel::begin promises
abbrev pub BeginsOnAKernel : Type 0 → Type 0
BeginsOnAKernel K = (hash : RecordKey → ℕ) (seat : ℕ) (caller : Caller) (call : Call) (s : State)
    (old new : KernelState K) → IsWhole old → RestsOver hash s old → IsSeat old.locks seat →
    caller_at old.callers seat ≡ Some caller → HasCall seat call old new → ServesOver hash seat caller call s new

-- it is refused
abbrev pub RefusesAtRest : Type 0 → Type 0
RefusesAtRest K = (hash : RecordKey → ℕ) (seat : ℕ) (call : Call) (s : State) (refusal : Call × BeginFault)
    (old new : KernelState K) → RestsOver hash s old → IsRefused seat call refusal old new → RestsOver hash s new

-- ---- its steps

-- the rules have this answer, and the kernel rests over the system after it
pub record IsAnswered {K : Type 0} (hash : RecordKey → ℕ) (caller : Caller) (call : Call) (s : State)
    (answer : Answer) (k : KernelState K) : Type 0 where
  pub after : State
  pub by_rules : outcome caller call s ≡ Some (answer, after)
  pub rests : RestsOver hash after k

-- what is so after a step of which its seat is told this
abbrev pub StandsBehind : {K : Type 0} → (RecordKey → ℕ) → ℕ → Caller → Call → State → Step → KernelState K → Type 0
StandsBehind hash seat caller call s (steps.Moved kind) k = ServesOver hash seat caller call s k
-- nobody stands in its way
StandsBehind hash seat caller call s (steps.Blocked other) k = ⊥
-- the rules have no answer, and it begins anew or waits on
StandsBehind hash seat caller call s steps.Waiting k = WaitsOver hash seat caller call s k
StandsBehind hash seat caller call s (steps.Answered answer) k = IsAnswered hash caller call s answer k
StandsBehind hash seat caller call s steps.Idle k = ⊥
-- the file failed it, and no call goes on
StandsBehind hash seat caller call s (steps.Fault (faults.File fault)) k = k.failed ≡ true
-- a record that it was to insert had no room, and nothing has changed
StandsBehind hash seat caller call s (steps.Fault faults.NoRoom) k =
    FoundNoRoom hash seat caller call s × RestsOver hash s k

-- by what Kernel::step promises
abbrev pub AnswersByTheRules : Type 0 → Type 0
AnswersByTheRules K = (hash : RecordKey → ℕ) (seat : ℕ) (caller : Caller) (call : Call) (s : State) (did : Step)
    (old new : KernelState K) → IsSeat old.locks seat → ServesOver hash seat caller call s old →
    IsTurn seat did old new →
    ((a : ActiveView) → call_at old.seats seat ≡ Some a → old.failed ≡ false →
    TakesTurn hash seat old.stopped did a (call_at new.seats seat) old.pool new.pool old.locks new.locks
    old.journal new.journal) → StandsBehind hash seat caller call s did new

-- ---- it is driven

-- at one of these steps the record that the call was to insert next had no room in the pages of the kernel
pub record LacksInPages {K : Type 0} (hash : RecordKey → ℕ) (seat : ℕ) (caller : Caller) (call : Call) (s : State)
    (from : KernelState K) : Type 0 where
  -- the step, and how many were made before
  pub moves : ℕ
  pub before : KernelState K
  pub moved : Moves hash seat moves from before
  pub kind : Kind
  pub after : KernelState K
  pub step : IsStep hash seat (steps.Moved kind) before after
  -- by it the call found no room in the pages of the kernel
  pub active : ActiveView
  pub there : call_at before.seats seat ≡ Some active
  pub found : FoundNoRoom hash seat caller call s
  pub call_is : found.old ≡ active.machine
  pub pages : (found.old_pool ≡ before.pool) × (found.new_pool ≡ after.pool)
  pub locks : (found.old_locks ≡ before.locks) × (found.new_locks ≡ after.locks)

-- the call that a seat has under way was short of room before
pub record HadNoRoom {K : Type 0} (seat : ℕ) (k : KernelState K) : Type 0 where
  pub active : ActiveView
  pub there : call_at k.seats seat ≡ Some active
  pub lacked : lacks_room active.machine ≡ true

-- what is so after a drive of which its seat is told this
pub record StandsDriven {K : Type 0} (hash : RecordKey → ℕ) (seat : ℕ) (caller : Caller) (call : Call) (s : State)
    (did : Step) (old new : KernelState K) (driven : IsDriven hash seat did old new) : Type 0 where
  pub stands : StandsBehind hash seat caller call s did new
  pub rests : IsMove did → ⊥
  -- it moves no more often than a call has steps, and so is never given up
  pub few : driven.moves ≤ MOST_CALL_STEPS
  pub unspent : IsSpent seat driven.moves did driven.before new → ⊥
  -- the file fails it only where a transfer of the device failed
  pub cause : is_failure did ≡ true → HasRisen old.pool.faults new.pool.faults
  -- no room is told only where one of its steps found none, or one before them did
  pub room : did ≡ steps.Fault faults.NoRoom →
      LacksInPages hash seat caller call s old ⊎ HadNoRoom seat old

-- by what Kernel::drive promises
abbrev pub DrivesByTheRules : Type 0 → Type 0
DrivesByTheRules K = (hash : RecordKey → ℕ) (seat : ℕ) (caller : Caller) (call : Call) (s : State) (did : Step)
    (old new : KernelState K) → IsSeat old.locks seat → ServesOver hash seat caller call s old →
    (driven : IsDriven hash seat did old new) → StandsDriven hash seat caller call s did old new driven

-- by what Kernel::begin and Kernel::drive promise of a call that is begun on a kernel at rest, and driven
abbrev pub AnswersLoneCalls : Type 0 → Type 0
AnswersLoneCalls K = (hash : RecordKey → ℕ) (seat : ℕ) (caller : Caller) (call : Call) (s : State) (did : Step)
    (old begun new : KernelState K) → IsWhole old → RestsOver hash s old → IsSeat old.locks seat →
    caller_at old.callers seat ≡ Some caller → HasCall seat call old begun →
    (driven : IsDriven hash seat did begun new) →
    StandsDriven hash seat caller call s did begun new driven

-- ---- the stop mark

-- by what Kernel::stop promises
abbrev pub StopsAKernel : Type 0 → Type 0
StopsAKernel K = (hash : RecordKey → ℕ) (s : State) (old new : KernelState K) → RestsOver hash s old →
    IsStopped old new → RestsOver hash (record s { stopped = true }) new

-- and where a call waits on its seat: the stop wakes it
abbrev pub StopsAWaitingCall : Type 0 → Type 0
StopsAWaitingCall K = (hash : RecordKey → ℕ) (seat : ℕ) (caller : Caller) (call : Call) (s : State)
    (old new : KernelState K) → WaitsOver hash seat caller call s old → IsStopped old new →
    ServesOver hash seat caller call (record s { stopped = true }) new

-- ---- it is closed

-- by what Kernel::close promises of an honest device; the stop mark stands in no record
abbrev pub ClosesAKernel : Type 0 → Type 0
ClosesAKernel K = (hash : RecordKey → ℕ) (s : State) (content : List (List ℕ)) (k : KernelState K) →
    RestsOver hash s k → IsFlushedTo k.pool content → IsFileOf hash content (restarted s)
