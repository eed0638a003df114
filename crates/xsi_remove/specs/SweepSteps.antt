-- What a step of a sweep does. docs/STEPS.md, "Remove".
use Rattle.std.specs.Prelude.{ℕ, ◌≡◌, ◌≤◌, ◌+◌, ◌↔◌, ◌⊎◌, true, false, not, List, Option, Some, None, ⊤}
use Rattle.file_pages.specs.declared.fault.FileFault.{FileFault}
use Rattle.xsi_remove.specs.declared.work.Work.{Work}
use Rattle.xsi_remove.specs.Sweeps.{Faces, IsSweeping, sweep_access, sweep_facts, sweep_left, sweep_locks, sweep_turn}
use Rattle.xsi_remove.specs.UnderWay.{StepsUnderWay}
use Rattle.xsi_remove.specs.Words.{RecordKey, PoolState, Table, Lock, Change, Store, store_of, Progress, Blocked, Ended, is_fault, FollowsRow, HasEnded, NearsOrSpares, OnlyWrites, Step, StepHasCause, StepTurn, Remove, is_write, Queue, State, is_swept}

-- ---- whatever the device gives

-- no message is left, or it has failed: its access has given all its locks back
abbrev pub IsOver : Option Work → Type 0
IsOver None = ⊤
IsOver (Some w) = HasEnded w.access.operation

-- where it did not move, and met no fault, it is what it was
abbrev pub Rests : {F : Type 0} → Progress F → (old new : Option Work) → Type 0
Rests (Blocked other) old new = new ≡ old
Rests Ended old new = new ≡ old
Rests did old new = ⊤

-- a sweep of the queue of an id
abbrev pub IsOf : ℕ → Option Work → Type 0
IsOf id None = ⊤
IsOf id (Some w) = w.turn.id ≡ id

abbrev pub turns_of : Option Work → ℕ
turns_of None = 0
turns_of (Some w) = w.turns

pub record KeepsSweep {F : Type 0} (did : Progress F) (old new : Option Work) : Type 0 where
  pub ended : (did ≡ Ended) ↔ IsOver old
  pub rests : Rests did old new
  pub queue : (id : ℕ) → IsOf id old → IsOf id new
  pub fewer : turns_of new ≤ turns_of old

-- ---- on an honest device, in a sound world

-- a record of the queue's Messages and Types is to be deleted
pub record SweepsAway (id : ℕ) (turn : StepTurn) : Type 0 where
  pub key : RecordKey
  pub its : is_swept id key ≡ true
  pub removes : turn.write ≡ Some (Remove key)

-- what the step leaves of the sweep
pub record SweepsOn {F : Type 0} (hash : RecordKey → ℕ) (did : Progress F) (id count : ℕ) (q : Queue) (s : State)
    (old new : Option Work) (file file' : Store) : Type 0 where
  -- as many messages were swept as before, or one more
  pub count' : ℕ
  pub counts : (count' ≡ count) ⊎ (count' ≡ count + 1)
  pub sweeps : IsSweeping hash id count' q s new file'
  -- and what was written is such a deletion
  pub deletes : is_write did ≡ true → SweepsAway id (sweep_turn old file)

-- one step at the pseudokeys that this function gives
pub record MakesSweep (hash : RecordKey → ℕ) (seat : ℕ) (did : Progress FileFault) (old new : Option Work)
    (pool pool' : PoolState) (locks locks' : Table) : Type 0 where
  -- whatever the device gives
  pub writes : OnlyWrites (not (is_fault did)) pool pool'
  pub cause : StepHasCause did pool pool'
  pub aim : KeepsSweep did old new
  pub row : FollowsRow seat (sweep_locks old) (sweep_locks new) locks locks'
  -- on an honest device, in a sound world
  pub progress : (held : List Lock) (id count : ℕ) (q : Queue) (s : State) (change : Change) →
      Faces hash seat held id count q s old pool locks change →
      NearsOrSpares did (sweep_left old (store_of pool.images)) (sweep_left new (store_of pool'.images)) pool pool'
  pub step : (held : List Lock) (id count : ℕ) (q : Queue) (s : State) (change : Change) →
      Faces hash seat held id count q s old pool locks change → is_fault did ≡ false →
      Step hash seat (sweep_turn old (store_of pool.images)) did (sweep_facts new) pool pool' locks locks' change
  pub sweeps : (held : List Lock) (id count : ℕ) (q : Queue) (s : State) (change : Change) →
      Faces hash seat held id count q s old pool locks change → is_fault did ≡ false →
      SweepsOn hash did id count q s old new (store_of pool.images) (store_of pool'.images)
  pub turns_away : (held : List Lock) (id count : ℕ) (q : Queue) (s : State) (change : Change) →
      Faces hash seat held id count q s old pool locks change → is_fault did ≡ false →
      StepsUnderWay hash seat did (sweep_access old) (sweep_access new) pool pool' locks locks' change
