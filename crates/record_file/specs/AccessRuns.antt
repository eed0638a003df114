-- A find, and a write, that are made in one go. docs/STEPS.md, "Search".
use Rattle.std.specs.Prelude.{ℕ, ◌≡◌, true, List, [], ◌∷◌, ◌++◌, length, Option, Some, None, Ok}
use Rattle.file_pages.specs.declared.fault.FileFault.{FileFault}
use Rattle.record_file.specs.OperationRuns.{LacksKey, deed_of, operation_at, operation_done}
use Rattle.record_file.specs.WritesAhead.{WritesOn}
use Rattle.record_file.specs.stale_search.SearchRuns.{At, HasNoLock, at, standing, way_up_to}
use Rattle.record_file.specs.stale_search.declared.place.SearchPlace.{SearchPlace}
use Rattle.record_file.specs.stale_search.declared.place.SearchPlace.TheVariants.{Found}
use Rattle.record_file.specs.step_rules.Runs.{MovesAlong, Stop, stop, stops_in}
use Rattle.record_file.specs.step_rules.declared.kind.Kind.TheVariants as kinds
use Rattle.record_file.specs.AccessWords.{RecordKey, PoolState, Table, HasEnded, IsSeat, IsReady, EndsRow, Progress, Fault, row_of, store_of}
use Rattle.record_file.specs.Accesses.{AccessView, Serves, access_key, access_locks, begun}
use Rattle.record_file.specs.Purposes.{Purpose}
use Rattle.record_file.specs.AccessSteps.{MakesAccess}
use Rattle.record_file.specs.Readings.{Takes}

-- where an access may be stepped
pub record MayAccess (seat : ℕ) (s : At AccessView) : Type 0 where
  pub seated : IsSeat s.locks seat
  pub ready : IsReady s.pool
  pub row : EndsRow (access_locks s.machine) 3 (row_of s.locks seat)

-- a step, made where it may be, and all that is promised of it
pub record AccessStep (hash : RecordKey → ℕ) (seat : ℕ) (did : Progress FileFault) (old new : At AccessView)
    : Type 0 where
  pub may : MayAccess seat old
  pub makes : MakesAccess hash seat did old.machine new.machine old.pool new.pool old.locks new.locks

-- one whose search is at this place
abbrev pub access_at : SearchPlace → AccessView → AccessView
access_at place a = record a { operation = operation_at place a.operation }

-- a find that has found, read these bytes, and given the page back
abbrev pub access_done : ℕ → Option ℕ → List ℕ → AccessView → AccessView
access_done page found bytes a =
    record a { operation = operation_done page found a.operation; bytes = bytes }

-- the states of a find from where it has not begun: on the way to the page, where that answers and the bytes are read,
-- and where it is given back
abbrev pub find_stops : ℕ → (page : ℕ) → Option ℕ → (bytes : List ℕ) → At AccessView → List (Stop (At AccessView))
find_stops seat page found bytes old =
    stops_in (λ (place : SearchPlace). standing access_locks seat old.pool old.locks (access_at place old.machine))
    (way_up_to (store_of old.pool.images).header.depth page)
    ++ stop kinds.Look (standing access_locks seat old.pool old.locks
    (record (access_at (Found page found) old.machine) { bytes = bytes }))
    ∷ stop kinds.Release (at (access_done page found bytes old.machine) old.pool old.locks)
    ∷ []

-- a find has gone straight to the page that answers and has given it back, by these of its steps; the pool is what it
-- was, and so are the locks
pub record FindsAtOnce (seat : ℕ) (old new : AccessView) (pool : PoolState) (locks : Table) : Type 0 where
  pub page : ℕ
  -- of its key, the length of the value there
  pub found : Option ℕ
  pub is : new ≡ access_done page found new.bytes old
  -- it had no lock, and has none
  pub bare : HasNoLock (access_locks old)
  pub given : HasNoLock (access_locks new)
  pub moves : (hash : RecordKey → ℕ) →
      MovesAlong (AccessStep hash seat) (at old pool locks) (find_stops seat page found new.bytes (at old pool locks))

-- the bytes are the value, of this length, or what they were where there is none
abbrev pub AreRead : Option ℕ → (value : Option (List ℕ)) → (old new : List ℕ) → Type 0
AreRead None value old new = (value ≡ None) × (new ≡ old)
AreRead (Some len) value old new = (length new ≡ len) × (value ≡ Some new)

-- ---- a write

-- its states from where it has not begun: on the way to the page, and where that answers and is locked, and what it
-- takes of it has been read
abbrev pub write_stops : ℕ → (page : ℕ) → Option ℕ → (bytes : List ℕ) → At AccessView → List (Stop (At AccessView))
write_stops seat page found bytes old =
    stops_in (λ (place : SearchPlace). standing access_locks seat old.pool old.locks (access_at place old.machine))
    (way_up_to (store_of old.pool.images).header.depth page)
    ++ stop kinds.Look (standing access_locks seat old.pool old.locks
    (record (access_at (Found page found) old.machine) { bytes = bytes }))
    ∷ []

-- it has taken from its page what it is for, by looking alone
pub record TakesAhead (page : ℕ) (found : Option ℕ) (pool : PoolState) (old new : AccessView) : Type 0 where
  pub is : new ≡ record old { bytes = new.bytes }
  pub takes : Takes {X = Unit} (Ok tt) pool pool (access_at (Found page found) old)
      (record (access_at (Found page found) old) { bytes = new.bytes })

-- it has written there what it is for, which it has taken from that page, and nothing more is due behind it
pub record WritesThere (page : ℕ) (found : Option ℕ) (pool pool' : PoolState) (old new : AccessView) : Type 0 where
  pub lacks : LacksKey found old.operation
  pub ahead : TakesAhead page found pool old new
  pub done : WritesOn (deed_of old.operation) page found (access_key old) new.bytes pool pool'

-- a write has gone straight to the page that answers, has written it and given it back, by these of its steps; the
-- locks are what they were
pub record WritesAtOnce (seat : ℕ) (old new : AccessView) (pool pool' : PoolState) (locks : Table) : Type 0 where
  pub page : ℕ
  -- of its key, the length of the value there
  pub found : Option ℕ
  -- it, behind its WriteRecord
  pub written : AccessView
  -- it had no lock, and has none
  pub bare : HasNoLock (access_locks old)
  pub given : HasNoLock (access_locks new)
  pub ended : HasEnded new.operation
  pub paid : (written.written ≡ true) × (new.written ≡ true)
  pub moves : (hash : RecordKey → ℕ) →
      MovesAlong (AccessStep hash seat) (at old pool locks)
      (write_stops seat page found new.bytes (at old pool locks)
      ++ stop kinds.WriteRecord (standing access_locks seat pool' locks written)
      ∷ stop kinds.Release (at new pool' locks)
      ∷ [])

-- its page could not be written: as a step of it that tells the fault, by which it is what it was
pub record FailsAtOnce (seat : ℕ) (fault : FileFault) (old new : AccessView) (pool pool' : PoolState) (locks : Table)
    : Type 0 where
  pub same : new ≡ old
  pub step : (hash : RecordKey → ℕ) → AccessStep hash seat (Fault fault) (at old pool locks) (at old pool' locks)

-- such a write was made in one go, by an access that nobody has seen before it or behind it
pub record IsMade (seat : ℕ) (p : Purpose) (k : ℕ) (pool pool' : PoolState) (locks : Table) : Type 0 where
  pub serves : Serves p (begun p k)
  pub behind : AccessView
  pub writes : WritesAtOnce seat (begun p k) behind pool pool' locks
