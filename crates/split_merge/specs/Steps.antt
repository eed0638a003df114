-- What a step of a merge does. docs/STEPS.md, "Merge".
use Rattle.std.specs.Prelude.{ℕ, ◌≡◌, ◌↔◌, true, false, List, Result, Ok, Err}
use Rattle.stale_search.specs.file_pages.declared.fault.FileFault.{FileFault}
use Rattle.page_locks.specs.Table.{with_lock, with_kind, Opposes, IsOpposed}
use Rattle.stale_search.specs.Steps.{Stays, WritesOrSpares}
use Rattle.step_rules.specs.Turns.{is_fault}
use Rattle.step_rules.specs.declared.kind.Kind.{Kind}
use Rattle.step_rules.specs.declared.kind.Kind.TheVariants as kinds
use Rattle.hash_file.specs.Kept.{KeepsContents}
use Rattle.step_rules.specs.Rooms.{TurnsAway}
use Rattle.split_merge.specs.MergeWords.{RecordKey, Lock, LockKind, Exclusive, LockName, Directory, Table, row_of, with_row, PoolState, store_of, Change, Progress, Moved, Blocked, Fault, Ended, World, HasNoFileLock, Sees, Step, Nears, world}
use Rattle.split_merge.specs.Places.{MergeView, HasMergeRow, merge_locks, is_done, is_given_up}
use Rattle.split_merge.specs.Facts.{merge_facts, merge_turn, steps_left}

-- what it is about stays, it has ended where it is done, and where it did not move it is what it was
pub record KeepsAim {F : Type 0} (did : Progress F) (old new : MergeView) : Type 0 where
  pub key : new.key ≡ old.key
  pub pseudokey : new.approach.pseudokey ≡ old.approach.pseudokey
  pub ended : (did ≡ Ended) ↔ (is_done old.place ≡ true)
  pub stays : Stays did old new

-- a move brings the end nearer, and a fault is the device's
abbrev pub Progresses : Progress FileFault → MergeView → MergeView → PoolState → PoolState → Type 0
Progresses did old new pool pool' =
    Nears did (steps_left old (store_of pool.images)) (steps_left new (store_of pool'.images)) pool pool'

-- a step of the rules, after which the file holds what it held
pub record MergeStep {F : Type 0} (hash : RecordKey → ℕ) (seat : ℕ) (did : Progress F) (old new : MergeView)
    (pool pool' : PoolState) (locks locks' : Table) (change : Change) : Type 0 where
  pub step : Step hash seat (merge_turn old) did (merge_facts new) pool pool' locks locks' change
  pub contents : KeepsContents (store_of pool.images) (store_of pool'.images)

-- it turns away only at a step after which no merge can be made
abbrev pub TurnsAwayAt : (RecordKey → ℕ) → ℕ → (old new : MergeView) → World → Type 0
TurnsAwayAt hash seat old new w =
    is_given_up old.place ≡ false → is_given_up new.place ≡ true → TurnsAway hash old.key seat w

-- one step of a merge
pub record MakesStep (seat : ℕ) (did : Progress FileFault) (old new : MergeView) (pool pool' : PoolState)
    (locks locks' : Table) : Type 0 where
  -- whatever the device gives
  pub writes : WritesOrSpares did pool pool'
  pub aim : KeepsAim did old new
  pub row : (before : List Lock) → HasNoFileLock before → row_of locks seat ≡ merge_locks old before →
      locks' ≡ with_row locks seat (merge_locks new before)
  -- on an honest device, in a sound world
  pub progress : (hash : RecordKey → ℕ) (change : Change) → Sees hash seat (merge_facts old) pool locks change →
      Progresses did old new pool pool'
  pub step : (hash : RecordKey → ℕ) (change : Change) (before : List Lock) →
      hash old.key ≡ old.approach.pseudokey → HasNoFileLock before → row_of locks seat ≡ merge_locks old before →
      Sees hash seat (merge_facts old) pool locks change → is_fault did ≡ false →
      MergeStep hash seat did old new pool pool' locks locks' change
  pub answer : (hash : RecordKey → ℕ) (change : Change) → hash old.key ≡ old.approach.pseudokey →
      Sees hash seat (merge_facts old) pool locks change → is_fault did ≡ false →
      TurnsAwayAt hash seat old new (world pool'.images locks' change)

-- ---- its parts

-- a lock is granted and the merge goes on, or another seat stands in the way
abbrev pub IsGranted : {F : Type 0} → Progress F → (seat : ℕ) → LockName → LockKind → (old next new : MergeView) →
    (locks locks' : Table) → Type 0
IsGranted (Moved kind) seat name lock old next new locks locks' = (kind ≡ kinds.Grant) × (new ≡ next)
    × (IsOpposed locks seat name lock → ⊥) × (locks' ≡ with_lock locks seat name lock)
IsGranted (Blocked other) seat name lock old next new locks locks' =
    (new ≡ old) × Opposes locks seat name lock other × (locks' ≡ locks)
IsGranted did seat name lock old next new locks locks' = ⊥

-- the directory's lock becomes exclusive and the merge goes on, or another seat stands in the way
abbrev pub IsConverted : {F : Type 0} → Progress F → (seat : ℕ) → (old next new : MergeView) → (locks locks' : Table) →
    Type 0
IsConverted (Moved kind) seat old next new locks locks' = (kind ≡ kinds.Convert) × (new ≡ next)
    × (IsOpposed locks seat Directory Exclusive → ⊥) × (locks' ≡ with_kind locks seat Directory Exclusive)
IsConverted (Blocked other) seat old next new locks locks' =
    (new ≡ old) × Opposes locks seat Directory Exclusive other × (locks' ≡ locks)
IsConverted did seat old next new locks locks' = ⊥

-- a page was written and the merge goes on, or it was not
abbrev pub GoesOn : {F : Type 0} → Result Unit F → Progress F → Kind → (old next new : MergeView) → Type 0
GoesOn (Ok _) did kind old next new = (did ≡ Moved kind) × (new ≡ next)
GoesOn (Err fault) did kind old next new = (did ≡ Fault fault) × (new ≡ old)

-- a step that leaves the locks, whatever they are
abbrev pub MakesStepHere : Progress FileFault → (old new : MergeView) → (pool pool' : PoolState) → Type 0
MakesStepHere did old new pool pool' = (seat : ℕ) (locks : Table) → HasMergeRow old (row_of locks seat) →
    MakesStep seat did old new pool pool' locks locks
