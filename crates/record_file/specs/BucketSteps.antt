-- What a step of an access within one bucket does, by its deed. docs/STEPS.md, "Insert, Replace, Delete".
use Rattle.std.specs.Prelude.{ℕ, ◌≡◌, ◌↔◌, Bool, true, false, not, IsTrue, List, Option, None, IsSome, ⊤}
use Rattle.step_rules.specs.Turns.{LacksRoom}
use Rattle.step_rules.specs.Rooms.{TurnsAway}
use Rattle.split_merge.specs.file_pages.declared.fault.FileFault.{FileFault}
use Rattle.split_merge.specs.stale_search.Searches.{KeepsAim}
use Rattle.split_merge.specs.stale_search.Steps.{FollowsRow}
use Rattle.record_file.specs.Words.{RecordKey, pair, PoolState, Table, Lock, Change, row_of, store_of, OnlyWrites, Progress, Moved, Ended, WriteRecord, World, is_fault, HasNoFileLock, Nears, Sees, Stays, Step, StepHasCause, world}
use Rattle.record_file.specs.Machines.{FindsAt}
use Rattle.record_file.specs.Writers.{TellsNone, TellsSome}
use Rattle.record_file.specs.BucketAccesses.{BucketView, OwnsWritten, SuitsFile, bucket_facts, bucket_left, bucket_locks, bucket_turn, found_of, has_ended}
use Rattle.record_file.specs.declared.bucket_access.BucketStage.{BucketStage}
use Rattle.record_file.specs.declared.bucket_access.BucketStage.TheVariants.{Searching, Written, Ended as HasEnded}
use Rattle.record_file.specs.declared.bucket_access.Deed.{Deed}
use Rattle.record_file.specs.declared.bucket_access.Deed.TheVariants as deeds

-- ---- whatever the device gives

-- a step at which the deed may write pages
abbrev pub MayWritePages : {F : Type 0} → Deed → Progress F → Type 0
MayWritePages deeds.Find did = ⊥
MayWritePages deed did = did ≡ Moved WriteRecord

-- of an honest device pages are written by the WriteRecord alone, and by a find never
pub record WritesOnce {F : Type 0} (deed : Deed) (did : Progress F) (old new : PoolState) : Type 0 where
  pub writes : OnlyWrites (not (is_fault did)) old new
  pub spares : (MayWritePages deed did → ⊥) → IsTrue old.honest → new.images ≡ old.images

-- why the page is given back where nothing was written: it was to be found alone; a put has seen the key, or is to be
-- tried once more; nothing stands there to be replaced or removed
abbrev pub GivesBack : Deed → Option (ℕ × Option ℕ) → (due : Bool) → Type 0
GivesBack deeds.Find at due = due ≡ false
GivesBack deeds.Put at due = due ≡ false → TellsSome at
GivesBack deed at due = (due ≡ false) × TellsNone at

-- it leaves its search by the WriteRecord or for that cause, and what is due stays due
abbrev pub Passes : {F : Type 0} → Deed → Progress F → Option (ℕ × Option ℕ) → (old new : BucketStage) → Type 0
Passes deed did at Searching (Written n due) = did ≡ Moved WriteRecord
Passes deed did at Searching (HasEnded due) = GivesBack deed at due
Passes deed did at (Written n due) (HasEnded due') = due' ≡ due
Passes deed did at old new = ⊤

-- what it is about stays. It searches until a page answers, on which it then rests; it has ended where it gave the page
-- back, and where it did not move it is what it was
pub record KeepsBucket {F : Type 0} (deed : Deed) (did : Progress F) (pool : PoolState) (old new : BucketView)
    : Type 0 where
  pub key : new.search.key ≡ old.search.key
  pub pseudokey : new.search.pseudokey ≡ old.search.pseudokey
  pub kind : new.search.kind ≡ old.search.kind
  pub searches : found_of old ≡ None → KeepsAim did pool old.search new.search
  pub rests : IsSome (found_of old) → new.search ≡ old.search
  pub stays : Stays did old new
  pub ended : (did ≡ Ended) ↔ (has_ended old.stage ≡ true)
  pub passes : Passes deed did (found_of old) old.stage new.stage
  -- on an honest device it writes where a page answered
  pub answered : IsTrue pool.honest → did ≡ Moved WriteRecord → IsSome (found_of old)

-- ---- on an honest device, in a sound world

-- a put gives up only before a bucket that has no room for the record
abbrev pub GivesUp : (RecordKey → ℕ) → RecordKey → List ℕ → (old new : BucketStage) → World → Type 0
GivesUp hash key value Searching (HasEnded true) w = (page : ℕ) × LacksRoom hash (pair key value) page w
GivesUp hash key value old new w = ⊤

-- where a record was removed and no merge is due, none can be made
abbrev pub TurnsAwayIn : (RecordKey → ℕ) → RecordKey → ℕ → (old new : BucketStage) → World → Type 0
TurnsAwayIn hash key seat Searching (Written n false) w' = TurnsAway hash key seat w'
TurnsAwayIn hash key seat old new w' = ⊤

-- what is due behind the deed, told by a step from one world to the other
abbrev pub TellsDue : Deed → (RecordKey → ℕ) → ℕ → RecordKey → List ℕ → (old new : BucketStage) → (w w' : World) →
    Type 0
TellsDue deeds.Put hash seat key bytes old new w w' = GivesUp hash key bytes old new w
TellsDue deeds.Remove hash seat key bytes old new w w' = TurnsAwayIn hash key seat old new w'
TellsDue deed hash seat key bytes old new w w' = ⊤

-- one step of this deed, to which these bytes were lent
pub record MakesBucket (deed : Deed) (seat : ℕ) (bytes : List ℕ) (did : Progress FileFault) (old new : BucketView)
    (pool pool' : PoolState) (locks locks' : Table) : Type 0 where
  -- whatever the device gives
  pub writes : WritesOnce deed did pool pool'
  pub cause : StepHasCause did pool pool'
  pub aim : KeepsBucket deed did pool old new
  pub row : FollowsRow seat (bucket_locks old) (bucket_locks new) locks locks'
  -- on an honest device, in a sound world
  pub progress : (hash : RecordKey → ℕ) (change : Change) →
      SuitsFile deed hash (store_of pool.images) old.search bytes →
      Sees hash seat (bucket_facts deed old) pool locks change →
      Nears did (bucket_left deed old (store_of pool.images)) (bucket_left deed new (store_of pool'.images)) pool pool'
  pub step : (hash : RecordKey → ℕ) (change : Change) (before : List Lock) → HasNoFileLock before →
      OwnsWritten deed hash before old.search → row_of locks seat ≡ bucket_locks old before →
      SuitsFile deed hash (store_of pool.images) old.search bytes →
      Sees hash seat (bucket_facts deed old) pool locks change → is_fault did ≡ false →
      Step hash seat (bucket_turn deed old bytes (store_of pool.images)) did (bucket_facts deed new) pool pool' locks
      locks' change
  pub answer : (hash : RecordKey → ℕ) (change : Change) → hash old.search.key ≡ old.search.pseudokey →
      Sees hash seat (bucket_facts deed old) pool locks change → is_fault did ≡ false →
      FindsAt hash seat did old.search.key (found_of old) (found_of new) (world pool.images locks change)
      × TellsDue deed hash seat old.search.key bytes old.stage new.stage (world pool.images locks change)
      (world pool'.images locks' change)
