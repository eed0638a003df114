-- Laws of calls of several seats. Each is the contract of a function of concurrent_laws.rt. docs/STEPS.md, "Calls".
use Rattle.std.specs.Prelude.{ℕ, ◌≡◌, ◌≢◌, Bool, true, false, List, Option, Some, None}
use Rattle.hash_file.specs.Change.{Quiet}
use Rattle.step_rules.specs.Walking.{IsOwnStep}
use Rattle.step_rules.specs.World.{World}
use Rattle.interleavings.specs.xsi_calls.Machine.{call_facts, call_turn}
use Rattle.interleavings.specs.ConcurrentWords.{Begins, Call, CallView, Caller, Change, world, ComesBy, Conclusion, FileFault, HasFittingCall, HasFittingCaller, IsFileAtRest, IsOver, IsSeat, MakesCall, PoolState, Progress, RecordKey, State, Table, conclusion_of, is_fault, owes_at}
use Rattle.interleavings.specs.Together.{AreTogether, Seats, owes_of}

-- each other seat is at what it was
abbrev pub AreTheOthers : ℕ → (old new : Seats) → Type 0
AreTheOthers seat old new = (other : ℕ) → other ≢ seat → new other ≡ old other

abbrev pub AreIdle : Seats → Type 0
AreIdle seats = (seat : ℕ) → seats seat ≡ None

-- they are together, in this phase of a change of the structure
pub record AreTogetherIn (hash : RecordKey → ℕ) (s : State) (seats : Seats) (pool : PoolState) (locks : Table)
    (change : Change) : Type 0 where
  pub together : AreTogether hash s seats pool locks
  pub phase : together.change ≡ change

-- ---- at rest

abbrev pub RestTogether : Type 0
RestTogether = (hash : RecordKey → ℕ) (s : State) (seats : Seats) (pool : PoolState) (locks : Table) →
    IsFileAtRest hash s pool locks → AreIdle seats → AreTogetherIn hash s seats pool locks Quiet

abbrev pub LeaveAtRest : Type 0
LeaveAtRest = (hash : RecordKey → ℕ) (s : State) (seats : Seats) (pool : PoolState) (locks : Table) →
    AreTogether hash s seats pool locks → AreIdle seats → IsFileAtRest hash s pool locks

-- ---- a call begins, and ends

abbrev pub BeginTogether : Type 0
BeginTogether = (hash : RecordKey → ℕ) (seat : ℕ) (caller : Caller) (call : Call) (s : State) (m : CallView)
    (seats seats' : Seats) (pool : PoolState) (locks : Table) (t : AreTogether hash s seats pool locks) →
    seats seat ≡ None → HasFittingCaller caller → HasFittingCall call → Begins caller call m →
    seats' seat ≡ Some m → AreTheOthers seat seats seats' → AreTogetherIn hash s seats' pool locks t.change

abbrev pub EndTogether : Type 0
EndTogether = (hash : RecordKey → ℕ) (seat : ℕ) (s : State) (m : CallView) (seats seats' : Seats)
    (pool : PoolState) (locks : Table) (t : AreTogether hash s seats pool locks) → seats seat ≡ Some m → IsOver m →
    seats' seat ≡ None → AreTheOthers seat seats seats' → AreTogetherIn hash s seats' pool locks t.change

-- ---- a step of one of them

-- by it the system changes where the call comes to its answer, as the rules say; else it stays
abbrev pub LeadsBy : (before behind : Option Conclusion) → Caller → Call → (bytes : List ℕ) → (s after : State) → Type 0
LeadsBy None behind caller call bytes s after = ComesBy behind caller call bytes s after
LeadsBy (Some before) behind caller call bytes s after = after ≡ s

-- by a step of the call at a seat, from this world
pub record LeadTogether (hash : RecordKey → ℕ) (seat : ℕ) (did : Progress FileFault) (s : State) (seats : Seats)
    (old new : CallView) (before : World) (pool : PoolState) (locks : Table) : Type 0 where
  pub after : State
  pub leads : LeadsBy (conclusion_of old) (conclusion_of new) old.caller old.call new.undecided.questions.room.bytes
      s after
  -- it is stopped exactly where it was
  pub mark : after.stopped ≡ s.stopped
  pub together : AreTogether hash after seats pool locks
  -- it is one of the rules, by which a search of the call goes on its way
  pub stepped : IsOwnStep hash seat (call_turn hash old before.store) did (call_facts old) (call_facts new) before
      (world pool.images locks together.change)

abbrev pub StepTogether : Type 0
StepTogether = (hash : RecordKey → ℕ) (seat : ℕ) (s : State) (stopped : Bool) (did : Progress FileFault)
    (old new : CallView) (seats seats' : Seats) (pool pool' : PoolState) (locks locks' : Table)
    (t : AreTogether hash s seats pool locks) → IsSeat locks seat → seats seat ≡ Some old → s.stopped ≡ stopped →
    MakesCall hash seat stopped did old new pool pool' locks locks' → is_fault did ≡ false →
    seats' seat ≡ Some new → AreTheOthers seat seats seats' →
    LeadTogether hash seat did s seats' old new (world pool.images locks t.change) pool' locks'

-- ---- the stop mark

abbrev pub StopTogether : Type 0
StopTogether = (hash : RecordKey → ℕ) (s : State) (stopped : Bool) (seats : Seats) (pool : PoolState)
    (locks : Table) (t : AreTogether hash s seats pool locks) →
    AreTogetherIn hash (record s { stopped = stopped }) seats pool locks t.change

-- ---- who owes what

abbrev pub OweApart : Type 0
OweApart = (hash : RecordKey → ℕ) (s : State) (seats : Seats) (pool : PoolState) (locks : Table) →
    AreTogether hash s seats pool locks → (seat other : ℕ) → seat ≢ other → (key : RecordKey) →
    owes_at (owes_of (seats seat)) key ≡ true → owes_at (owes_of (seats other)) key ≡ false
