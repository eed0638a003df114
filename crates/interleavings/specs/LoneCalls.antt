-- A call that is made alone: calls beside one another, of which there is no other. docs/STEPS.md, "Calls";
-- docs/QUEUES.md, "Calls".
use Rattle.std.specs.Prelude.{ℕ, ◌≡◌, ◌==◌, Bool, true, false, if◌then◌else◌, Option, Some, None}
use Rattle.interleavings.specs.LoneCallWords.{Blocked, Call, CallView, Caller, FileFault, IsSeat, MakesCall, NearsOrSpares, PoolState, Progress, RecordKey, State, Table, TrialLacksRoom, call_left, conclusion_of, is_fault, its_plan, store_of, trials_of, world}
use Rattle.interleavings.specs.Serving.{ComesBy, lacks_room}
use Rattle.interleavings.specs.Together.{AreTogether}

-- at one seat this call is under way, and at no other one is
abbrev pub only : (seat : ℕ) → CallView → ℕ → Option CallView
only seat m other = if other == seat then Some m else None

-- this caller's call over s is under way on a seat, and no other seat has one
pub record IsLoneCall (hash : RecordKey → ℕ) (seat : ℕ) (caller : Caller) (call : Call) (s : State) (m : CallView)
    (pool : PoolState) (locks : Table) : Type 0 where
  pub caller_is : m.caller ≡ caller
  pub call_is : m.call ≡ call
  pub seated : IsSeat locks seat
  -- it has come to this system, which is stopped exactly where s is
  pub now : State
  pub comes : ComesBy (conclusion_of m) caller call m.undecided.questions.room.bytes s now
  pub mark : now.stopped ≡ s.stopped
  -- and so have all calls that are under way, which is this one
  pub together : AreTogether hash now (only seat m) pool locks

-- ---- want of room

-- at one of its steps the record that it was to insert next had no room in the file
pub record FoundNoRoom (hash : RecordKey → ℕ) (seat : ℕ) (caller : Caller) (call : Call) (s : State) : Type 0 where
  pub old : CallView
  pub old_pool : PoolState
  pub old_locks : Table
  pub before : IsLoneCall hash seat caller call s old old_pool old_locks
  pub new : CallView
  pub new_pool : PoolState
  pub new_locks : Table
  pub behind : IsLoneCall hash seat caller call s new new_pool new_locks
  pub lacks : TrialLacksRoom hash (its_plan old.call old.undecided.questions) (trials_of old.undecided).due
      (world new_pool.images new_locks before.together.change)

-- a lone call is under way, and lacks room for that cause alone
pub record IsServed (hash : RecordKey → ℕ) (seat : ℕ) (caller : Caller) (call : Call) (s : State) (m : CallView)
    (pool : PoolState) (locks : Table) : Type 0 where
  pub lone : IsLoneCall hash seat caller call s m pool locks
  pub cause : lacks_room m ≡ true → FoundNoRoom hash seat caller call s

-- ---- its steps

-- what is so behind one
pub record GoesOn (hash : RecordKey → ℕ) (seat : ℕ) (caller : Caller) (call : Call) (s : State)
    (did : Progress FileFault) (old new : CallView) (pool pool' : PoolState) (locks : Table) : Type 0 where
  -- a move leaves fewer steps; a fault is the device's, and changes no page
  pub nears : NearsOrSpares did (call_left old (store_of pool.images)) (call_left new (store_of pool'.images)) pool
      pool'
  -- nobody stands in the way
  pub free : (other : ℕ) → did ≡ Blocked other → ⊥
  -- unless it is a fault the call is served still
  pub served : is_fault did ≡ false → IsServed hash seat caller call s new pool' locks

-- the law of a function of lone_kernel_laws.rt, by what CallMachine::step promises where the stop mark of the system is
-- lent over which the call was made
abbrev pub GoesOnAlone : Type 0
GoesOnAlone = (hash : RecordKey → ℕ) (seat : ℕ) (caller : Caller) (call : Call) (s : State) (stopped : Bool)
    (did : Progress FileFault) (old new : CallView) (pool pool' : PoolState) (locks locks' : Table) →
    IsServed hash seat caller call s old pool locks → s.stopped ≡ stopped →
    MakesCall hash seat stopped did old new pool pool' locks locks' →
    GoesOn hash seat caller call s did old new pool pool' locks'
