-- A step of a call that writes, and its parts: an access begins, makes its step, and is let go.
use Rattle.std.specs.Prelude.{ℕ, ◌≡◌, Bool, true, false, not, ◌&&◌, List, Option, Some, None, Result, Ok, Err}
use Rattle.record_file.specs.file_pages.declared.fault.FileFault.{FileFault}
use Rattle.record_file.specs.file_pages.declared.fault.FileFault.TheVariants.{Failed}
use Rattle.xsi_remove.specs.Words.{StepHasCause}
use Rattle.xsi_remove.specs.UnderWay.{StepsUnderWay}
use Rattle.call_writes.specs.declared.writes.CallWrites.{CallWrites}
use Rattle.call_writes.specs.WriteWords.{RecordKey, Record, Records, Plan, PoolState, Table, Lock, Change, store_of, OnlyWrites, FollowsRow, NearsOrSpares, Progress, Ended, Fault, is_fault, HasEnded, ToInsert, Allows, Serves, AccessView, MakesAccess, has_no_room, Deed, Due, Trying, Full}
use Rattle.call_writes.specs.Dues.{IsBehind, IsDeedInRange, next_deed, purpose_of}
use Rattle.call_writes.specs.Views.{IsOver, begun_deed, writes_left_in, writes_locks}
use Rattle.call_writes.specs.Carrying.{IsCarrying}
use Rattle.call_writes.specs.CarrySteps.{Carries, KeepsPlan}

-- ---- an access begins

-- it is under way, or begins for the deed that comes next
pub data IsSetOut (hash : RecordKey → ℕ) (p : Plan) (old new : CallWrites) : Type 0 where
  GoesOn : (a : AccessView) → old.access ≡ Some a → new ≡ old → IsSetOut hash p old new
  Begins : (d : Deed) → old.access ≡ None → next_deed p old.due ≡ Some d → Serves (purpose_of d) (begun_deed hash d) →
      new ≡ record { due = old.due; access = Some (begun_deed hash d) } → IsSetOut hash p old new

-- a deed out of range is refused
pub record IsRefused (p : Plan) (fault : FileFault) (old : CallWrites) : Type 0 where
  pub rests : old.access ≡ None
  pub deed : Deed
  pub next : next_deed p old.due ≡ Some deed
  pub out : IsDeedInRange deed → ⊥
  pub failed : fault ≡ Failed

abbrev pub SetsOut : (RecordKey → ℕ) → Plan → Result Bool FileFault → (old new : CallWrites) → Type 0
SetsOut hash p (Ok true) old new = IsSetOut hash p old new
SetsOut hash p (Ok false) old new = (new ≡ old) × IsOver p old
SetsOut hash p (Err fault) old new = (new ≡ old) × IsRefused p fault old

-- ---- it makes its step

-- it had not written before, and has written now
abbrev pub PaysDue : Plan → Bool → (due due' : Due) → Type 0
PaysDue p true due due' = IsBehind p due due'
PaysDue p false due due' = due' ≡ due

-- one step of the access
pub record StepsOn (hash : RecordKey → ℕ) (seat : ℕ) (p : Plan) (did : Progress FileFault) (old new : CallWrites)
    (pool pool' : PoolState) (locks locks' : Table) : Type 0 where
  pub before : AccessView
  pub was : old.access ≡ Some before
  pub going : HasEnded before.operation → ⊥
  pub behind : AccessView
  pub is : new.access ≡ Some behind
  pub made : MakesAccess hash seat did before behind pool pool' locks locks'
  pub due : PaysDue p (not before.written && behind.written) old.due new.due

-- or it has ended before, and is refused
pub record IsHeldUp (did : Progress FileFault) (old new : CallWrites) (pool pool' : PoolState) (locks locks' : Table)
    : Type 0 where
  pub before : AccessView
  pub was : old.access ≡ Some before
  pub ended : HasEnded before.operation
  pub fault : did ≡ Fault Failed
  pub same : new ≡ old
  pub pool_same : pool' ≡ pool
  pub locks_same : locks' ≡ locks

pub data MakesDeed (hash : RecordKey → ℕ) (seat : ℕ) (p : Plan) (did : Progress FileFault) (old new : CallWrites)
    (pool pool' : PoolState) (locks locks' : Table) : Type 0 where
  Goes : StepsOn hash seat p did old new pool pool' locks locks' →
      MakesDeed hash seat p did old new pool pool' locks locks'
  HeldUp : IsHeldUp did old new pool pool' locks locks' → MakesDeed hash seat p did old new pool pool' locks locks'

-- ---- it is let go

-- it is that of no trial that is due: such a one that has ended and has not written has no room
abbrev pub IsNoTrial : Due → AccessView → Type 0
IsNoTrial due a = (standing : ℕ) (r : Record) (found : Option Record) → due ≡ Trying standing →
    Serves (ToInsert r) a → Allows (ToInsert r) a found → ⊥

-- where it has given its locks back: written, or without room, or neither
pub data Settles (did did' : Progress FileFault) (old new : CallWrites) : Type 0 where
  Stays : did' ≡ did → new ≡ old →
      ((a : AccessView) → old.access ≡ Some a → HasEnded a.operation → is_fault did ≡ true) → Settles did did' old new
  LetsGo : (a : AccessView) → old.access ≡ Some a → HasEnded a.operation → is_fault did ≡ false → a.written ≡ true →
      did' ≡ did → new ≡ record { due = old.due; access = None } → Settles did did' old new
  IsFull : (a : AccessView) (standing : ℕ) → old.access ≡ Some a → HasEnded a.operation → is_fault did ≡ false →
      has_no_room a ≡ true → old.due ≡ Trying standing → did' ≡ did →
      new ≡ record { due = Full standing; access = None } → Settles did did' old new
  Fails : (a : AccessView) → old.access ≡ Some a → HasEnded a.operation → is_fault did ≡ false → a.written ≡ false →
      IsNoTrial old.due a → did' ≡ Fault Failed → new ≡ old → Settles did did' old new

-- ---- a step

-- its parts: a deed out of range is refused; nothing is left to do; or an access makes its step, and is let go where it
-- has ended
pub data TakesStep (hash : RecordKey → ℕ) (seat : ℕ) (p : Plan) (did : Progress FileFault) (old new : CallWrites)
    (pool pool' : PoolState) (locks locks' : Table) : Type 0 where
  Refuses : (fault : FileFault) → SetsOut hash p (Err fault) old new → did ≡ Fault fault → pool' ≡ pool →
      locks' ≡ locks → TakesStep hash seat p did old new pool pool' locks locks'
  Rests : SetsOut hash p (Ok false) old new → did ≡ Ended → pool' ≡ pool → locks' ≡ locks →
      TakesStep hash seat p did old new pool pool' locks locks'
  Makes : (begun stepped : CallWrites) (made : Progress FileFault) → SetsOut hash p (Ok true) old begun →
      MakesDeed hash seat p made begun stepped pool pool' locks locks' → Settles made did stepped new →
      TakesStep hash seat p did old new pool pool' locks locks'

pub record MakesWrites (hash : RecordKey → ℕ) (seat : ℕ) (p : Plan) (did : Progress FileFault) (old new : CallWrites)
    (pool pool' : PoolState) (locks locks' : Table) : Type 0 where
  pub takes : TakesStep hash seat p did old new pool pool' locks locks'
  -- whatever the device gives
  pub writes : OnlyWrites (not (is_fault did)) pool pool'
  pub cause : StepHasCause did pool pool'
  pub aim : KeepsPlan p did old new
  pub row : FollowsRow seat (writes_locks old) (writes_locks new) locks locks'
  -- on an honest device, in a sound world
  pub progress : (names : List Lock) (records : Records) (change : Change) →
      IsCarrying hash seat names p old records pool locks change →
      NearsOrSpares did (writes_left_in p old (store_of pool.images)) (writes_left_in p new (store_of pool'.images))
      pool pool'
  pub step : (names : List Lock) (records : Records) (change : Change) →
      IsCarrying hash seat names p old records pool locks change → is_fault did ≡ false →
      Carries hash seat names p did old new records pool pool' locks locks' change
  pub turns_away : (names : List Lock) (records : Records) (change : Change) →
      IsCarrying hash seat names p old records pool locks change → is_fault did ≡ false →
      StepsUnderWay hash seat did old.access new.access pool pool' locks locks' change
