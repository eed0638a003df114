-- What a step of the second try of an Insert does. docs/STEPS.md, "Insert, Replace, Delete".
use Rattle.std.specs.Prelude.{ℕ, ◌≡◌, ◌↔◌, ◌<◌, false, not, List, Option, Some, None, IsSome, ⊤}
use Rattle.step_rules.specs.declared.kind.Kind.TheVariants as kinds
use Rattle.record_file.specs.InsertWords.{RecordKey, Pair, pair, PoolState, Table, Lock, Change, Progress, Moved, Fault, Ended, World, is_fault, HasNoFileLock, row_of, store_of, OnlyWrites, HasNoRoom, Tells, Owns, IsSparingFault, FollowsRow, Stays, world, Sees, Step, StepHasCause, Tried, IsPut, IsThere, IsFull}
use Rattle.split_merge.specs.file_pages.declared.fault.FileFault.{FileFault}
use Rattle.record_file.specs.SecondTries.{SecondTryView, second_locks, second_facts, second_turn, second_left, tried_at, said_at}

-- what it is about stays, it has ended where it gave all locks back, and where it did not move it is what it was
pub record KeepsSecondTry {F : Type 0} (did : Progress F) (old new : SecondTryView) : Type 0 where
  pub key : new.key ≡ old.key
  pub pseudokey : new.pseudokey ≡ old.pseudokey
  pub bytes : new.bytes ≡ old.bytes
  pub ended : (did ≡ Ended) ↔ IsSome (tried_at old.place)
  pub stays : Stays did old new

-- a move leaves fewer steps, and a fault is the device's and changes no page
abbrev pub NearsOrSpares : Progress FileFault → (left left' : ℕ) → PoolState → PoolState → Type 0
NearsOrSpares (Moved kind) left left' pool pool' = left' < left
NearsOrSpares (Fault fault) left left' pool pool' = IsSparingFault pool pool' fault
NearsOrSpares did left left' pool pool' = ⊤

-- the key was seen, by a Look at a page that answers for it
pub record IsSeenThere {F : Type 0} (hash : RecordKey → ℕ) (seat : ℕ) (did : Progress F) (key : RecordKey) (w : World)
    : Type 0 where
  pub looked : did ≡ Moved kinds.Look
  pub page : ℕ
  pub bytes : ℕ
  pub tells : Tells hash seat page key (Some bytes) w

-- what it has come to stays so. It comes to it by a Look that sees the key, or by the WriteRecord, or by a step after
-- which the record has no room
abbrev pub SaysAt : {F : Type 0} → (RecordKey → ℕ) → ℕ → Progress F → Pair → (before after : Option Tried) →
    (old new : World) → Type 0
SaysAt hash seat did p (Some tried) after old new = after ≡ Some tried
SaysAt hash seat did p None None old new = ⊤
SaysAt hash seat did p None (Some IsThere) old new = IsSeenThere hash seat did p.key old
SaysAt hash seat did p None (Some IsPut) old new = did ≡ Moved kinds.WriteRecord
SaysAt hash seat did p None (Some IsFull) old new = HasNoRoom hash p new

-- one step of a second try at the pseudokeys that this function gives
pub record MakesStep (hash : RecordKey → ℕ) (seat : ℕ) (value : List ℕ) (did : Progress FileFault)
    (old new : SecondTryView) (pool pool' : PoolState) (locks locks' : Table) : Type 0 where
  -- whatever the device gives
  pub writes : OnlyWrites (not (is_fault did)) pool pool'
  pub cause : StepHasCause did pool pool'
  pub aim : KeepsSecondTry did old new
  pub row : FollowsRow seat (second_locks old) (second_locks new) locks locks'
  -- on an honest device, in a sound world
  pub progress : (change : Change) → hash old.key ≡ old.pseudokey →
      Sees hash seat (second_facts old) pool locks change →
      NearsOrSpares did (second_left old (store_of pool.images)) (second_left new (store_of pool'.images)) pool pool'
  pub step : (change : Change) (before : List Lock) → HasNoFileLock before → Owns before old.key →
      row_of locks seat ≡ second_locks old before → hash old.key ≡ old.pseudokey →
      Sees hash seat (second_facts old) pool locks change → is_fault did ≡ false →
      Step hash seat (second_turn old value) did (second_facts new) pool pool' locks locks' change
  pub answer : (change : Change) → hash old.key ≡ old.pseudokey →
      Sees hash seat (second_facts old) pool locks change → is_fault did ≡ false →
      SaysAt hash seat did (pair old.key value) (said_at old.place) (said_at new.place)
      (world pool.images locks change) (world pool'.images locks' change)

-- whatever seat makes it, where it leaves the locks
abbrev pub MakesStepHere : List ℕ → Progress FileFault → (old new : SecondTryView) → (pool pool' : PoolState) →
    Type 0
MakesStepHere value did old new pool pool' = (hash : RecordKey → ℕ) (seat : ℕ) (locks : Table) →
    MakesStep hash seat value did old new pool pool' locks locks
