-- What the caller of an operation knows of records under its own locks, and keeps.
use Rattle.std.specs.Prelude.{ℕ, ◌≡◌, List, Option, false, if◌then◌else◌}
use Rattle.bucket_page.specs.Keys.{is_same}
use Rattle.record_file.specs.file_pages.declared.fault.FileFault.{FileFault}
use Rattle.record_file.specs.step_rules.Known.{Told}
use Rattle.record_file.specs.Callers.{KeepsNames}
use Rattle.record_file.specs.OperationWords.{RecordKey, PoolState, Table, Lock, Change, IsSeat, row_of, with_row, store_of, Progress, Moved, WriteRecord, IsKnown, IsSoundWorld, is_fault, world, Step, RecordOperation}
use Rattle.record_file.specs.Operations.{operation_facts, operation_key, operation_locks, operation_turn, operation_writes}

-- a step of an operation in a table: the clauses `row` and `step` as they were promised to its caller
pub record Stepped (hash : RecordKey → ℕ) (seat : ℕ) (bytes : List ℕ) (did : Progress FileFault)
    (old new : RecordOperation) (pool pool' : PoolState) (locks locks' : Table) (change : Change) : Type 0 where
  pub seated : IsSeat locks seat
  pub sound : IsSoundWorld hash (world pool.images locks change)
  pub fine : is_fault did ≡ false
  pub before : List Lock
  pub row : row_of locks seat ≡ operation_locks old before
  pub follows : locks' ≡ with_row locks seat (operation_locks new before)
  pub step : Step hash seat (operation_turn old bytes (store_of pool.images)) did (operation_facts new) pool pool' locks
      locks' change

-- the names of records that are held are those of before
abbrev pub AddsFileNames : Type 0
AddsFileNames = (o : RecordOperation) → KeepsNames (operation_locks o)

-- what the file holds at a key stays known through a step that writes no record
abbrev pub KeepsTold : Type 0
KeepsTold = (hash : RecordKey → ℕ) (seat : ℕ) (bytes : List ℕ) (did : Progress FileFault) (old new : RecordOperation)
    (pool pool' : PoolState) (locks locks' : Table) (change : Change)
    (made : Stepped hash seat bytes did old new pool pool' locks locks' change) (key : RecordKey)
    (value : Option (List ℕ)) → (did ≡ Moved WriteRecord → ⊥) →
    IsKnown seat (world pool.images locks change) (Told key value) →
    IsKnown seat (world pool'.images locks' made.step.after) (Told key value)

-- and through the WriteRecord, but at the operation's key, where it is what was written
abbrev pub TellsWritten : Type 0
TellsWritten = (hash : RecordKey → ℕ) (seat : ℕ) (bytes : List ℕ) (did : Progress FileFault)
    (old new : RecordOperation) (pool pool' : PoolState) (locks locks' : Table) (change : Change)
    (made : Stepped hash seat bytes did old new pool pool' locks locks' change) (key : RecordKey)
    (value : Option (List ℕ)) → did ≡ Moved WriteRecord →
    IsKnown seat (world pool.images locks change) (Told key value) →
    IsKnown seat (world pool'.images locks' made.step.after) (Told key
    (if is_same (operation_key old) key then operation_writes old bytes (store_of pool.images) else value))
