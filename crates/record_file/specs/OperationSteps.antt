-- What a step of an operation does. docs/STEPS.md, "Insert, Replace, Delete".
use Rattle.std.specs.Prelude.{ℕ, ◌≡◌, ◌↔◌, true, false, not, IsTrue, List, length, ⊤}
use Rattle.record_file.specs.file_pages.declared.fault.FileFault.{FileFault}
use Rattle.record_file.specs.declared.bucket_access.Deed.TheVariants as deeds
use Rattle.record_file.specs.OperationWords.{RecordKey, pair, PoolState, Table, Lock, Change, Progress, Moved, Ended, WriteRecord, World, is_fault, HasNoFileLock, LeavesSearch, row_of, store_of, OnlyWrites, Stays, Sees, Step, StepHasCause, FollowsRow, NearsOrSpares, world, FindsAt, SaysAt, TurnsAwayAt, TurnsAwayIn, KeepsBucket, KeepsInsert, KeepsDelete, RecordOperation, Find, Insert, Replace, Delete}
use Rattle.record_file.specs.Operations.{HasEnded, IsKeyed, MayBeLent, OwnsWritten, SuitsFile, has_searched, operation_facts, operation_found, operation_key, operation_left, operation_locks, operation_pseudokey, operation_tried, operation_turn}

-- ---- whatever the device gives

-- of an honest device: a find changes no page, a replace none but by its WriteRecord, and a delete none where its step
-- is a fault
abbrev pub SparesPages : {F : Type 0} → Progress F → RecordOperation → (old new : PoolState) → Type 0
SparesPages did (Find f) old new = new.images ≡ old.images
SparesPages did (Insert i) old new = ⊤
SparesPages did (Replace r) old new = (did ≡ Moved WriteRecord → ⊥) → new.images ≡ old.images
SparesPages did (Delete d) old new = is_fault did ≡ true → new.images ≡ old.images

pub record LeavesPages {F : Type 0} (did : Progress F) (o : RecordOperation) (old new : PoolState) : Type 0 where
  pub writes : OnlyWrites (not (is_fault did)) old new
  pub spares : IsTrue old.honest → SparesPages did o old new

-- it stays of its kind, and keeps what one of its kind keeps
abbrev pub KeepsKind : {F : Type 0} → ℕ → Progress F → PoolState → (old new : RecordOperation) → Type 0
KeepsKind bytes did pool (Find f) (Find f') = KeepsBucket deeds.Find did pool f f'
KeepsKind bytes did pool (Insert i) (Insert i') = KeepsInsert bytes did i i'
KeepsKind bytes did pool (Replace r) (Replace r') = KeepsBucket deeds.Replace did pool r r'
KeepsKind bytes did pool (Delete d) (Delete d') = KeepsDelete did d d'
KeepsKind bytes did pool old new = ⊥

-- what it is about stays, it has ended where it gave all its locks back, where it did not move it is what it was, as
-- many bytes may be lent again, and after its search it has written, but where nothing stands there
pub record KeepsOperation {F : Type 0} (bytes : ℕ) (did : Progress F) (pool : PoolState) (old new : RecordOperation)
    : Type 0 where
  pub key : operation_key new ≡ operation_key old
  pub pseudokey : operation_pseudokey new ≡ operation_pseudokey old
  pub ended : (did ≡ Ended) ↔ HasEnded old
  pub stays : Stays did old new
  pub lent : MayBeLent bytes old → MayBeLent bytes new
  pub leaves : LeavesSearch did (operation_found old) (has_searched old) (has_searched new)
  pub kind : KeepsKind bytes did pool old new

-- ---- on an honest device, in a sound world

-- a delete turns away from its merge only for its causes
abbrev pub TurnsAwayOf : (RecordKey → ℕ) → ℕ → (old new : RecordOperation) → World → Type 0
TurnsAwayOf hash seat (Delete d) (Delete d') w =
    TurnsAwayIn hash d.removal.search.key seat d.removal.stage d'.removal.stage w
    × TurnsAwayAt hash seat d.merge d'.merge w
TurnsAwayOf hash seat old new w = ⊤

-- what is told by a step to which these bytes were lent, from one world to the other
pub record TellsOf {F : Type 0} (hash : RecordKey → ℕ) (seat : ℕ) (did : Progress F) (bytes : List ℕ)
    (old new : RecordOperation) (w w' : World) : Type 0 where
  -- what the file holds at the key, at the Look of a page that answers
  pub found : FindsAt hash seat did (operation_key old) (operation_found old) (operation_found new) w
  -- that an insert has put the value, has seen the key, or has no room
  pub tried : SaysAt hash seat did (pair (operation_key old) bytes) (operation_tried old) (operation_tried new) w w'
  pub turns_away : TurnsAwayOf hash seat old new w'

-- one step at the pseudokeys that this function gives, to which these bytes were lent
pub record MakesOperation (hash : RecordKey → ℕ) (seat : ℕ) (bytes : List ℕ) (did : Progress FileFault)
    (old new : RecordOperation) (pool pool' : PoolState) (locks locks' : Table) : Type 0 where
  -- whatever the device gives
  pub writes : LeavesPages did old pool pool'
  pub cause : StepHasCause did pool pool'
  pub aim : KeepsOperation (length bytes) did pool old new
  pub row : FollowsRow seat (operation_locks old) (operation_locks new) locks locks'
  -- on an honest device, in a sound world
  pub progress : (change : Change) → IsKeyed hash old → SuitsFile (store_of pool.images) old bytes →
      Sees hash seat (operation_facts old) pool locks change →
      NearsOrSpares did (operation_left old (store_of pool.images)) (operation_left new (store_of pool'.images)) pool
      pool'
  pub step : (change : Change) (before : List Lock) → HasNoFileLock before → OwnsWritten before old →
      row_of locks seat ≡ operation_locks old before → IsKeyed hash old →
      SuitsFile (store_of pool.images) old bytes → Sees hash seat (operation_facts old) pool locks change →
      is_fault did ≡ false →
      Step hash seat (operation_turn old bytes (store_of pool.images)) did (operation_facts new) pool pool' locks locks'
      change
  pub answer : (change : Change) → IsKeyed hash old → Sees hash seat (operation_facts old) pool locks change →
      is_fault did ≡ false →
      TellsOf hash seat did bytes old new (world pool.images locks change) (world pool'.images locks' change)
