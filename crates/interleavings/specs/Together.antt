-- Calls of several seats beside one another, over one file and one system. docs/STEPS.md, "Calls", "Locks".
use Rattle.std.specs.Prelude.{ℕ, ◌≡◌, ◌≢◌, ◌⊎◌, true, false, List, [], Option, Some, None, IsSome, IsTrue, ⊤}
use Rattle.queue_records.specs.declared.record.Record.TheVariants as records_are
use Rattle.interleavings.specs.xsi_calls.Stages.{Undecided, Paying, Releasing}
use Rattle.interleavings.specs.ConcurrentWords.{Call, CallView, Change, Counter, HasFittingCall, HasFittingCaller, IsCalling, IsFilePool, IsFiled, IsKeptApart, IsSoundWorld, IsUncounted, Lock, Owes, PoolState, RecordKey, Records, Stage, StandsAt, State, Table, UndecidedCall, Writes, call_locks, call_owes, conclusion_of, counter_key, overlaid, owes_at, record_of, row_of, store_of, world}

-- the call of each seat that has one under way
abbrev pub Seats : Type 0
Seats = ℕ → Option CallView

-- what a seat owes the file, and what it holds; nothing without a call
abbrev pub owes_of : Option CallView → Owes
owes_of None = Writes []
owes_of (Some m) = call_owes m

abbrev pub locks_of : Option CallView → List Lock
locks_of None = []
locks_of (Some m) = call_locks m

-- ---- one among the others

-- until a call decides, others leave what it knows
abbrev pub IsApartAt : Call → UndecidedCall → Stage → Type 0
IsApartAt call u Undecided = IsKeptApart call u.questions
IsApartAt call u (Paying payment conclusion) = ⊤
IsApartAt call u (Releasing conclusion) = ⊤

-- a call is under way on a seat, over a system and the records of the whole file
pub record IsUnderWay (hash : RecordKey → ℕ) (seat : ℕ) (s : State) (m : CallView) (records : Records)
    (pool : PoolState) (locks : Table) (change : Change) : Type 0 where
  -- its numbers, and its caller's, fit the fields of records
  pub caller_fits : HasFittingCaller m.caller
  pub call_fits : HasFittingCall m.call
  -- what is so at its place
  pub calls : IsCalling hash seat s m records pool locks change
  pub apart : IsApartAt m.call m.undecided m.stage

abbrev pub IsWell : (RecordKey → ℕ) → ℕ → State → Option CallView → Records → PoolState → Table → Change → Type 0
IsWell hash seat s None records pool locks change = ⊤
IsWell hash seat s (Some m) records pool locks change = IsUnderWay hash seat s m records pool locks change

-- ---- the Counter

-- the queue of this id was made last, and the call that made it owes the Counter still
pub record IsStillToCount (n : ℕ) (s : State) (seats : Seats) : Type 0 where
  pub uncounted : IsUncounted n s
  pub seat : ℕ
  pub maker : CallView
  pub there : seats seat ≡ Some maker
  pub decided : IsSome (conclusion_of maker)
  pub owes : owes_at (call_owes maker) counter_key ≡ true

-- ---- all of them

-- whatever each of the seats is at, this is the system that they have come to
pub record AreTogether (hash : RecordKey → ℕ) (s : State) (seats : Seats) (pool : PoolState) (locks : Table)
    : Type 0 where
  -- the device is honest, and has a file, which is sound in the phase of the change under way
  pub honest : IsTrue pool.honest
  pub file : IsFilePool pool
  pub change : Change
  pub sound : IsSoundWorld hash (world pool.images locks change)
  -- records can spell the system
  pub filed : IsFiled s
  -- the records of the file
  pub records : Records
  pub stands : (key : RecordKey) → StandsAt (store_of pool.images) key (records key)
  -- each seat holds exactly the locks of its call, which is right at its place
  pub rows : (seat : ℕ) → row_of locks seat ≡ locks_of (seats seat)
  pub calls : (seat : ℕ) → IsWell hash seat s (seats seat) records pool locks change
  -- where no other seat owes a record, there stands that of the system once this seat has paid
  pub will : (seat : ℕ) (key : RecordKey) → ((other : ℕ) → other ≢ seat → owes_at (owes_of (seats other)) key ≡ false) →
      overlaid (owes_of (seats seat)) records key ≡ record_of s key
  -- the file's Counter has the next id of the system, or that of the queue made last, which is still to be counted
  pub counter : Counter
  pub counts : records counter_key ≡ Some (records_are.Counter counter)
  pub next : (s.next_id ≡ counter.next_id) ⊎ IsStillToCount counter.next_id s seats
