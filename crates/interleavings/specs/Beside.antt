-- What a step of another seat leaves to a seat. docs/STEPS.md, "What a seat may know".
use Rattle.std.specs.Prelude.{ℕ, ◌≡◌, ◌+◌, ◌⊎◌, nat_lt, IsSome, IsTrue, List, Option, Some, None}
use Rattle.std.specs.List.{Contains, find}
use Rattle.page_locks.specs.declared.lock.LockName.TheVariants as names
use Rattle.queue_model.specs.Rules.{has_id}
use Rattle.queue_records.specs.declared.record.Record.TheVariants as records
use Rattle.interleavings.specs.SeatWords.{Change, Counter, Exclusive, IsFilePool, IsKnown, IsSoundWorld, Known, Lock, LockName, PoolState, Record, RecordKey, StandsAt, State, Store, Table, counter_key, guard_of, held, kind_of, names_in, row_of, store_of, world}

-- from before the step to after it
pub record LeavesSeat (hash : RecordKey → ℕ) (seat : ℕ) (pool pool' : PoolState) (locks locks' : Table)
    (change change' : Change) : Type 0 where
  -- the device is honest and has a file, and the world is sound
  pub honest : IsTrue pool'.honest
  pub file : IsFilePool pool'
  pub sound : IsSoundWorld hash (world pool'.images locks' change')
  -- the seat holds what it held
  pub row : row_of locks' seat ≡ row_of locks seat
  -- and knows what it knew
  pub known : (fact : Known) → IsKnown seat (world pool.images locks change) fact →
      IsKnown seat (world pool'.images locks' change') fact
  -- what stood at a key of which it holds the name, in whatever kind, stands there
  pub stands : (key : RecordKey) (found : Option Record) → IsSome (held locks seat (guard_of key)) →
      StandsAt (store_of pool.images) key found → StandsAt (store_of pool'.images) key found

-- where the first is so of a seat, the second is so of it after each step of another
abbrev pub LeadsBeside : (RecordKey → ℕ) → ℕ → (IsSo IsThen : PoolState → Table → Change → Type 0) → Type 0
LeadsBeside hash seat IsSo IsThen = (pool pool' : PoolState) (locks locks' : Table) (change change' : Change) →
    LeavesSeat hash seat pool pool' locks locks' change change' → IsSo pool locks change → IsThen pool' locks' change'

-- ---- names

-- the locks of a seat have the name of each record as these do, behind which it may have locks of the file
abbrev pub HoldsNames : Table → ℕ → List Lock → Type 0
HoldsNames locks seat names = (key : RecordKey) → held locks seat (guard_of key) ≡ kind_of names (guard_of key)

-- none of the first is held Exclusive among the second
abbrev pub AreApart : (names theirs : List Lock) → Type 0
AreApart names theirs = (name : LockName) → Contains (names_in names) name → kind_of theirs name ≡ Some Exclusive → ⊥

-- ---- the Counter

-- the file has one, which tells of an id whose name is held, and which no queue has, whether it was given out. A seat
-- that does not hold the Counter asks it so
pub record CountsUnder (held : List LockName) (store : Store) (s : State) : Type 0 where
  pub counter : Counter
  pub counts : StandsAt store counter_key (Some (records.Counter counter))
  pub given : (id : ℕ) → Contains held (names.Queue id) → find (has_id id) s.queues ≡ None →
      nat_lt id counter.next_id ≡ nat_lt id s.next_id

-- it has the next id, or that of the queue made last, which its call is still to count
pub record CountsAll (store : Store) (s : State) : Type 0 where
  pub counter : Counter
  pub counts : StandsAt store counter_key (Some (records.Counter counter))
  pub next : (s.next_id ≡ counter.next_id) ⊎ (s.next_id ≡ counter.next_id + 1)
