-- What a step of an insert does. docs/STEPS.md, "Insert, Replace, Delete".
use Rattle.std.specs.Prelude.{ℕ, ◌≡◌, ◌↔◌, false, not, List, length, ⊤}
use Rattle.split_merge.specs.file_pages.declared.fault.FileFault.{FileFault}
use Rattle.record_file.specs.InsertWords.{RecordKey, pair, PoolState, Table, Lock, Change, Progress, Ended, is_fault, HasNoFileLock, row_of, store_of, OnlyWrites, Owns, FollowsRow, Stays, world, Sees, Step, StepHasCause}
use Rattle.record_file.specs.SecondSteps.{KeepsSecondTry, NearsOrSpares, SaysAt}
use Rattle.record_file.specs.BucketAccesses.{BucketView}
use Rattle.record_file.specs.BucketSteps.{MakesBucket}
use Rattle.record_file.specs.declared.bucket_access.Deed.TheVariants as deeds
use Rattle.record_file.specs.Inserts.{InsertView, IsFirstAt, IsInsert, IsLent, IsOver, insert_facts, insert_left, insert_locks, insert_turn, said_of}
use Rattle.record_file.specs.declared.insert.InsertStage.{InsertStage}
use Rattle.record_file.specs.declared.insert.InsertStage.TheVariants.{First, Second}

-- the second try is not left, and keeps what a second try keeps
abbrev pub GoesOn : {F : Type 0} → Progress F → (old new : InsertStage) → Type 0
GoesOn did (First t said) new = ⊤
GoesOn did (Second t) (First t' said) = ⊥
GoesOn did (Second t) (Second t') = KeepsSecondTry did t t'

-- what it is about stays, it has ended where it gave all locks back, where it did not move it is what it was, and the
-- value of so many bytes that was lent may be lent again
pub record KeepsInsert {F : Type 0} (bytes : ℕ) (did : Progress F) (old new : InsertView) : Type 0 where
  pub key : new.key ≡ old.key
  pub pseudokey : new.pseudokey ≡ old.pseudokey
  pub ended : (did ≡ Ended) ↔ IsOver old.stage
  pub stays : Stays did old new
  pub goes : GoesOn did old.stage new.stage
  pub lent : IsLent bytes old.stage → IsLent bytes new.stage

-- one step of an insert at the pseudokeys that this function gives
pub record MakesInsert (hash : RecordKey → ℕ) (seat : ℕ) (value : List ℕ) (did : Progress FileFault)
    (old new : InsertView) (pool pool' : PoolState) (locks locks' : Table) : Type 0 where
  -- whatever the device gives
  pub writes : OnlyWrites (not (is_fault did)) pool pool'
  pub cause : StepHasCause did pool pool'
  pub aim : KeepsInsert (length value) did old new
  pub row : FollowsRow seat (insert_locks old) (insert_locks new) locks locks'
  -- on an honest device, in a sound world
  pub progress : (change : Change) → hash old.key ≡ old.pseudokey →
      Sees hash seat (insert_facts old) pool locks change →
      NearsOrSpares did (insert_left old (store_of pool.images)) (insert_left new (store_of pool'.images)) pool pool'
  pub step : (change : Change) (before : List Lock) → HasNoFileLock before → Owns before old.key →
      row_of locks seat ≡ insert_locks old before → hash old.key ≡ old.pseudokey →
      Sees hash seat (insert_facts old) pool locks change → is_fault did ≡ false →
      Step hash seat (insert_turn old value) did (insert_facts new) pool pool' locks locks' change
  pub answer : (change : Change) → hash old.key ≡ old.pseudokey →
      Sees hash seat (insert_facts old) pool locks change → is_fault did ≡ false →
      SaysAt hash seat did (pair old.key value) (said_of old.stage) (said_of new.stage)
      (world pool.images locks change) (world pool'.images locks' change)

-- where the first try at this key has made this step from what it was, to put this value, what is noted of it makes the
-- step one of the insert
abbrev pub Notes : (key : RecordKey) (k : ℕ) → List ℕ → Progress FileFault → (old new : InsertStage) → Type 0
Notes key k value did (Second t) new = new ≡ Second t
Notes key k value did (First t' said) new =
    (hash : RecordKey → ℕ) (seat : ℕ) (t : BucketView) (pool pool' : PoolState) (locks locks' : Table) →
    IsFirstAt key k t said → MakesBucket deeds.Put seat value did t t' pool pool' locks locks' →
    IsInsert key k new
    × MakesInsert hash seat value did (record { key = key; pseudokey = k; stage = First t said })
    (record { key = key; pseudokey = k; stage = new }) pool pool' locks locks'
