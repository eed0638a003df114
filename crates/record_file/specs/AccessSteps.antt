-- What a step of an access does. docs/STEPS.md, "Calls".
use Rattle.std.specs.Prelude.{ℕ, ◌≡◌, ◌≤◌, ◌↔◌, ◌⊎◌, Bool, true, false, not, List, length, Option, Some, None, IsSome, if◌then◌else◌, ⊤}
use Rattle.std.specs.Option.{is_some}
use Rattle.record_file.specs.declared.operation.RecordOperation.TheVariants as operations
use Rattle.record_file.specs.step_rules.declared.kind.Kind.{Kind}
use Rattle.file_pages.specs.declared.fault.FileFault.{FileFault}
use Rattle.record_file.specs.AccessWords.{RecordKey, pair, PoolState, Table, Lock, Change, row_of, store_of, Progress, Moved, Blocked, Ended, Look, OnlyWrites, FollowsRow, World, is_fault, HasNoFileLock, Sees, Step, StepHasCause, world, NearsOrSpares, RecordOperation, HasEnded, IsKeyed, OwnsWritten, operation_found, HasNoRoom, Links, Record, linked_bytes}
use Rattle.record_file.specs.OperationSteps.{MakesOperation, TurnsAwayOf}
use Rattle.record_file.specs.Purposes.{Purpose, StandsAt, is_write, left_by}
use Rattle.record_file.specs.Accesses.{AccessView, Allows, HasFound, Serves, access_answer, access_facts, access_key, access_left, access_locks, access_pseudokey, access_turn, has_no_room, has_set_out}

-- ---- whatever the device gives

-- where it did not move, and met no fault, it is what it was
abbrev pub Rests : {F : Type 0} → Progress F → (old new : AccessView) → Type 0
Rests (Blocked other) old new = new ≡ old
Rests Ended old new = new ≡ old
Rests did old new = ⊤

-- what a page told of the value's length suits what is lent: a value is replaced by one as long, links are set in one
-- that has their front, and what is deleted is there
abbrev pub SuitsLength : Option Links → List ℕ → Option ℕ → Type 0
SuitsLength None bytes len = len ≡ Some (length bytes)
SuitsLength (Some links) bytes None = ⊥
SuitsLength (Some links) bytes (Some len) = (length bytes ≡ linked_bytes links) × (length bytes ≤ len)

abbrev pub SuitsAnswer : RecordOperation → Bool → Option Links → List ℕ → Option ℕ → Type 0
SuitsAnswer (operations.Find f) written links bytes None = ⊤
SuitsAnswer (operations.Find f) written links bytes (Some len) = length bytes ≡ len
SuitsAnswer (operations.Insert i) written links bytes len = ⊤
SuitsAnswer (operations.Replace r) written links bytes len = SuitsLength links bytes len
SuitsAnswer (operations.Delete d) written links bytes len = written ≡ false → IsSome len

abbrev pub SuitsFound : Option (ℕ × Option ℕ) → AccessView → Type 0
SuitsFound None a = ⊤
SuitsFound (Some at) a = SuitsAnswer a.operation a.written a.links a.bytes at.1

pub record KeepsAccess {F : Type 0} (did : Progress F) (old new : AccessView) : Type 0 where
  -- what it is about and what it is for stay
  pub key : access_key new ≡ access_key old
  pub pseudokey : access_pseudokey new ≡ access_pseudokey old
  pub serves : (p : Purpose) → Serves p old → Serves p new
  -- it has ended where it gave all its locks back
  pub ended : (did ≡ Ended) ↔ HasEnded old.operation
  pub rests : Rests did old new
  -- it tells what it told, and counts its WriteRecord
  pub tells : (found : Option Record) → HasFound old found → HasFound new found
  pub written : new.written ≡ (if is_write did then true else old.written)
  -- what a page answers suits it
  pub suits : did ≡ Moved Look → operation_found old.operation ≡ None → SuitsFound (operation_found new.operation) new

-- ---- on an honest device, in a sound world

-- an access of a seat, for this, and over what stands at its key
pub record Faces (hash : RecordKey → ℕ) (seat : ℕ) (p : Purpose) (found : Option Record) (a : AccessView)
    (pool : PoolState) (locks : Table) (change : Change) : Type 0 where
  pub serves : Serves p a
  -- the pseudokey is that of its key
  pub keyed : IsKeyed hash a.operation
  pub sees : Sees hash seat (access_facts a) pool locks change
  -- its locks stand behind those that the seat had before, and of a record that it writes the lock is held exclusively
  pub before : List Lock
  pub bare : HasNoFileLock before
  pub owns : OwnsWritten before a.operation
  pub row : row_of locks seat ≡ access_locks a before
  -- this stands at its key, and allows what is still to be done
  pub stands : StandsAt (store_of pool.images) (access_key a) found
  pub allows : Allows p a found

-- a find tells what stands there from the Look of a page that answers
abbrev pub FindsRecord : {F : Type 0} → Progress F → (old new : AccessView) → Option Record → Type 0
FindsRecord did old new found =
    (access_answer new ≡ access_answer old)
    ⊎ ((did ≡ Moved Look) × (access_answer old ≡ None) × HasFound new found)

-- what the step leaves at the key and tells, from one world to the other
pub record TellsOf {F : Type 0} (hash : RecordKey → ℕ) (seat : ℕ) (did : Progress F) (p : Purpose)
    (found : Option Record) (old new : AccessView) (w w' : World) : Type 0 where
  -- there stands what stood there, or what the WriteRecord made of it
  pub stands : StandsAt w'.store (access_key old) (left_by did p found)
  pub allows : Allows p new (left_by did p found)
  pub finds : FindsRecord did old new found
  -- behind a move the search of a find has begun, so it begins once
  pub sets_out : (kind : Kind) → did ≡ Moved kind → has_set_out new ≡ true
  -- an insert turns to having no room only where there is none
  pub lacks : has_no_room old ≡ false → has_no_room new ≡ true → HasNoRoom hash (pair (access_key old) old.bytes) w'
  -- a delete turns away from its merge only at a step after which no merge can be made
  pub turns_away : TurnsAwayOf hash seat old.operation new.operation w'

-- one step at the pseudokeys that this function gives
pub record MakesAccess (hash : RecordKey → ℕ) (seat : ℕ) (did : Progress FileFault) (old new : AccessView)
    (pool pool' : PoolState) (locks locks' : Table) : Type 0 where
  -- whatever the device gives
  pub writes : OnlyWrites (not (is_fault did)) pool pool'
  pub cause : StepHasCause did pool pool'
  pub aim : KeepsAccess did old new
  pub row : FollowsRow seat (access_locks old) (access_locks new) locks locks'
  -- on an honest device, in a sound world
  pub progress : (p : Purpose) (found : Option Record) (change : Change) →
      Faces hash seat p found old pool locks change →
      NearsOrSpares did (access_left old (store_of pool.images)) (access_left new (store_of pool'.images)) pool pool'
  pub step : (p : Purpose) (found : Option Record) (change : Change) →
      Faces hash seat p found old pool locks change → is_fault did ≡ false →
      Step hash seat (access_turn old (store_of pool.images)) did (access_facts new) pool pool' locks locks' change
  pub answer : (p : Purpose) (found : Option Record) (change : Change) →
      Faces hash seat p found old pool locks change → is_fault did ≡ false →
      TellsOf hash seat did p found old new (world pool.images locks change) (world pool'.images locks' change)

-- where its operation has made this step from what it was, before which a page had answered or not, that step is one of
-- the access, and so is the rest that is done
abbrev pub Settles : (answered : Bool) (did done : Progress FileFault) (old new : AccessView) (pool pool' : PoolState) →
    Type 0
Settles answered did done old new pool pool' =
    (hash : RecordKey → ℕ) (seat : ℕ) (a : AccessView) (before : PoolState) (locks locks' : Table) →
    answered ≡ is_some (operation_found a.operation) → old ≡ record a { operation = old.operation } →
    MakesOperation hash seat a.bytes did a.operation old.operation before pool locks locks' →
    MakesAccess hash seat done a new before pool' locks locks'
