-- A plan is carried out in a sound world, under the names of its call. docs/STEPS.md, "Locks", "What a call writes".
use Rattle.std.specs.Prelude.{ℕ, ◌≡◌, true, false, List, Option, Some, None, IsSome, ⊤}
use Rattle.std.specs.List.{All}
use Rattle.call_writes.specs.declared.writes.CallWrites.{CallWrites}
use Rattle.call_writes.specs.WriteWords.{RecordKey, Record, guard_of, key_of, Write, IsSmall, Plan, Records, writes_of, key_written, kind_of, Owns, PoolState, Table, Lock, Change, row_of, store_of, HasEnded, HasNoFileLock, IsKeyed, Sees, StandsAt, made, AccessView, Allows, Serves, access_key, Deed, Due}
use Rattle.call_writes.specs.Dues.{CanGoOn, next_deed, purpose_of}
use Rattle.call_writes.specs.Views.{writes_facts, writes_locks}

-- of each record that the plan writes the name is held exclusively
pub record OwnsPlan (names : List Lock) (p : Plan) : Type 0 where
  pub trials : All (λ (r : Record). Owns names (key_of r)) p.trials
  pub writes : All (λ (w : Write). Owns names (key_written w)) (writes_of p)

-- the access of a deed, over these records
pub record IsDoing (hash : RecordKey → ℕ) (names : List Lock) (p : Plan) (due : Due) (records : Records) (d : Deed)
    (a : AccessView) : Type 0 where
  pub serves : Serves (purpose_of d) a
  -- the pseudokey is that of its key
  pub keyed : IsKeyed hash a.operation
  pub owns : Owns names (access_key a)
  pub allows : Allows (purpose_of d) a (records (access_key a))
  -- until it has written the deed is the one that comes next
  pub next : a.written ≡ false → next_deed p due ≡ Some d
  -- and then it would change nothing again
  pub paid : a.written ≡ true → made (purpose_of d) (records (access_key a)) ≡ records (access_key a)

abbrev pub IsUnderWay : (RecordKey → ℕ) → List Lock → Plan → Due → Records → Option AccessView → Type 0
IsUnderWay hash names p due records None = ⊤
IsUnderWay hash names p due records (Some a) = (d : Deed) × IsDoing hash names p due records d a

-- an access that has ended is let go
abbrev pub IsGoingOn : Option AccessView → Type 0
IsGoingOn None = ⊤
IsGoingOn (Some a) = HasEnded a.operation → ⊥

-- a seat that holds these names carries out a plan over these records
pub record IsCarrying (hash : RecordKey → ℕ) (seat : ℕ) (names : List Lock) (p : Plan) (w : CallWrites)
    (records : Records) (pool : PoolState) (locks : Table) (change : Change) : Type 0 where
  pub small : IsSmall p
  pub sees : Sees hash seat (writes_facts w) pool locks change
  -- its row is the names, and behind them the locks of the access
  pub bare : HasNoFileLock names
  pub row : row_of locks seat ≡ writes_locks w names
  pub own : OwnsPlan names p
  -- under the names there stand these records
  pub stands : (key : RecordKey) → IsSome (kind_of names (guard_of key)) →
      StandsAt (store_of pool.images) key (records key)
  pub can : CanGoOn p w.due records
  pub doing : IsUnderWay hash names p w.due records w.access
  pub going : IsGoingOn w.access
