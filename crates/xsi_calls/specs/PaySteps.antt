-- What a step of a payment does. docs/STEPS.md, "Calls", "Remove".
use Rattle.std.specs.Prelude.{ℕ, ◌≡◌, ◌↔◌, true, false, not, List, Option}
use Rattle.file_pages.specs.declared.fault.FileFault.{FileFault}
use Rattle.file_pages.specs.declared.fault.FileFault.TheVariants.{Failed}
use Rattle.call_writes.specs.CarrySteps.{Advances, Leaves}
use Rattle.call_writes.specs.MakeSteps.{MakesWrites}
use Rattle.call_writes.specs.call_decisions.Owing.{is_swept}
use Rattle.call_writes.specs.xsi_remove.Words.{StepHasCause}
use Rattle.call_writes.specs.xsi_remove.UnderWay.{StepsUnderWay}
use Rattle.call_writes.specs.xsi_remove.SweepSteps.{IsOf, IsOver, MakesSweep}
use Rattle.call_writes.specs.PaymentStages.{Stage}
use Rattle.call_writes.specs.PaymentStages as stages
use Rattle.call_writes.specs.PaymentWords.{RecordKey, PoolState, Table, Lock, Change, store_of, OnlyWrites, FollowsRow, NearsOrSpares, Progress, Ended, Fault, is_fault, is_write, Step, Owns, Plan, Records, overlaid, Work, is_move}
use Rattle.call_writes.specs.declared.writes.CallWrites.{CallWrites}
use Rattle.call_writes.specs.Payments.{IsPaid, owes_now, payment_access, payment_facts, payment_left, payment_locks, payment_turn, unwritten}
use Rattle.call_writes.specs.Paying.{IsPaying}

-- ---- whatever the device gives

-- nothing of the plan is written before the sweep has ended, by a step of its own
pub record EndsSweep {F : Type 0} (did : Progress F) (w : CallWrites) : Type 0 where
  pub moved : is_move did ≡ true
  pub fresh : w ≡ unwritten

-- the step is one of the sweep or one of the writes
abbrev pub KeepsPart : {F : Type 0} → Plan → Progress F → (old new : Stage) → Type 0
KeepsPart p did (stages.Sweeping v) (stages.Sweeping v') = (id : ℕ) → IsOf id v → IsOf id v'
KeepsPart p did (stages.Sweeping v) (stages.Writing w) = EndsSweep did w
KeepsPart p did (stages.Writing w) (stages.Sweeping v) = ⊥
KeepsPart p did (stages.Writing w) (stages.Writing w') = Advances p did w.due w'.due

pub record KeepsPayment {F : Type 0} (p : Plan) (did : Progress F) (old new : Stage) : Type 0 where
  -- it has ended exactly where nothing is left to do, and stays so
  pub ended : (did ≡ Ended) ↔ IsPaid p old
  pub rests : did ≡ Ended → new ≡ old
  pub part : KeepsPart p did old new

-- ---- on an honest device, in a sound world

-- the records after a step: a sweep leaves all but the Messages and Types of its queue, and a write leaves what its
-- deed makes
abbrev pub LeavesPart : Plan → (old new : Stage) → (records after : Records) → Type 0
LeavesPart p (stages.Sweeping v) new records after =
    (id : ℕ) → IsOf id v → (key : RecordKey) → is_swept id key ≡ false → after key ≡ records key
LeavesPart p (stages.Writing w) (stages.Sweeping v) records after = ⊥
LeavesPart p (stages.Writing w) (stages.Writing w') records after = Leaves p w.due w'.due records after

-- a step of the rules, after which the seat pays further, and what will stand once nothing is owed is the same
pub record Pays {F : Type 0} (hash : RecordKey → ℕ) (seat : ℕ) (names : List Lock) (p : Plan) (did : Progress F)
    (old new : Stage) (records : Records) (pool pool' : PoolState) (locks locks' : Table) (change : Change)
    : Type 0 where
  pub step : Step hash seat (payment_turn hash p old (store_of pool.images)) did (payment_facts new) pool pool' locks
      locks' change
  pub after : Records
  -- records change by a WriteRecord alone, and where their names are held exclusively
  pub still : is_write did ≡ false → after ≡ records
  pub elsewhere : (key : RecordKey) → (Owns names key → ⊥) → after key ≡ records key
  -- and as its part says
  pub leaves : LeavesPart p old new records after
  pub pays : IsPaying hash seat names p new after pool' locks' step.after
  pub owed : (key : RecordKey) → overlaid (owes_now p new) after key ≡ overlaid (owes_now p old) records key

-- ---- one step of a part

-- a step of the sweep, which goes on; or it has failed before, and is refused
pub data StepsSweep (hash : RecordKey → ℕ) (seat : ℕ) (did : Progress FileFault) (old new : Option Work)
    (pool pool' : PoolState) (locks locks' : Table) : Type 0 where
  Goes : (IsOver old → ⊥) → MakesSweep hash seat did old new pool pool' locks locks' →
      (is_move did ≡ true → IsOver new → ⊥) → StepsSweep hash seat did old new pool pool' locks locks'
  HasFailed : IsOver old → did ≡ Fault Failed → new ≡ old → pool' ≡ pool → locks' ≡ locks →
      StepsSweep hash seat did old new pool pool' locks locks'

-- a step of the sweep by which it ends
pub record StepsLast (hash : RecordKey → ℕ) (seat : ℕ) (did : Progress FileFault) (old : Option Work) (w : CallWrites)
    (pool pool' : PoolState) (locks locks' : Table) : Type 0 where
  pub goes_on : IsOver old → ⊥
  pub swept : Option Work
  pub makes : MakesSweep hash seat did old swept pool pool' locks locks'
  pub ends : EndsSweep did w
  pub over : IsOver swept

abbrev pub StepsPart : (RecordKey → ℕ) → ℕ → Plan → Progress FileFault → (old new : Stage) →
    (pool pool' : PoolState) → (locks locks' : Table) → Type 0
StepsPart hash seat p did (stages.Sweeping v) (stages.Sweeping v') pool pool' locks locks' =
    StepsSweep hash seat did v v' pool pool' locks locks'
StepsPart hash seat p did (stages.Sweeping v) (stages.Writing w) pool pool' locks locks' =
    StepsLast hash seat did v w pool pool' locks locks'
StepsPart hash seat p did (stages.Writing w) (stages.Sweeping v) pool pool' locks locks' = ⊥
StepsPart hash seat p did (stages.Writing w) (stages.Writing w') pool pool' locks locks' =
    MakesWrites hash seat p did w w' pool pool' locks locks'

-- ---- a step

pub record MakesPayment (hash : RecordKey → ℕ) (seat : ℕ) (p : Plan) (did : Progress FileFault) (old new : Stage)
    (pool pool' : PoolState) (locks locks' : Table) : Type 0 where
  -- by the part under way
  pub part : StepsPart hash seat p did old new pool pool' locks locks'
  -- whatever the device gives
  pub writes : OnlyWrites (not (is_fault did)) pool pool'
  pub cause : StepHasCause did pool pool'
  pub aim : KeepsPayment p did old new
  pub row : FollowsRow seat (payment_locks old) (payment_locks new) locks locks'
  -- on an honest device, in a sound world
  pub progress : (names : List Lock) (records : Records) (change : Change) →
      IsPaying hash seat names p old records pool locks change →
      NearsOrSpares did (payment_left p old (store_of pool.images)) (payment_left p new (store_of pool'.images)) pool
      pool'
  pub step : (names : List Lock) (records : Records) (change : Change) →
      IsPaying hash seat names p old records pool locks change → is_fault did ≡ false →
      Pays hash seat names p did old new records pool pool' locks locks' change
  pub turns_away : (names : List Lock) (records : Records) (change : Change) →
      IsPaying hash seat names p old records pool locks change → is_fault did ≡ false →
      StepsUnderWay hash seat did (payment_access old) (payment_access new) pool pool' locks locks' change
