-- What is so of a call at each of its places, over a system and the records that stand under its names.
-- docs/STEPS.md, "Calls".
use Rattle.std.specs.Prelude.{ℕ, ◌≡◌, List, []}
use Rattle.xsi_calls.specs.Stages.{Stage, Undecided, Paying, Releasing}
use Rattle.xsi_calls.specs.Words.{AreNamesOf, PaymentStage, Sees, Call, Change, IsPaying, IsUndecided, Lock, PoolState, RecordKey, Records, State, Table, UndecidedCall, its_plan, row_of}
use Rattle.xsi_calls.specs.Machine.{CallView}

-- it pays what it owes, under names of its own
pub record IsPayingCall (hash : RecordKey → ℕ) (seat : ℕ) (call : Call) (u : UndecidedCall) (payment : PaymentStage)
    (records : Records) (pool : PoolState) (locks : Table) (change : Change) : Type 0 where
  pub names : AreNamesOf call u.questions.names
  pub pays : IsPaying hash seat u.questions.names (its_plan call u.questions) payment records pool locks change

-- all is paid, and the row of its seat is its names
pub record IsReleasing (hash : RecordKey → ℕ) (seat : ℕ) (call : Call) (held : List Lock) (pool : PoolState)
    (locks : Table) (change : Change) : Type 0 where
  pub names : AreNamesOf call held
  pub sees : Sees hash seat [] pool locks change
  pub row : row_of locks seat ≡ held

-- before its Decide it knows what it was told of s; after it, it pays what it owes
abbrev pub IsCallingAt : (RecordKey → ℕ) → ℕ → Call → State → UndecidedCall → Stage → Records → PoolState → Table →
    Change → Type 0
IsCallingAt hash seat call s u Undecided records pool locks change =
    IsUndecided hash seat call s u records pool locks change
IsCallingAt hash seat call s u (Paying payment conclusion) records pool locks change =
    IsPayingCall hash seat call u payment records pool locks change
IsCallingAt hash seat call s u (Releasing conclusion) records pool locks change =
    IsReleasing hash seat call u.questions.names pool locks change

abbrev pub IsCalling : (RecordKey → ℕ) → ℕ → State → CallView → Records → PoolState → Table → Change → Type 0
IsCalling hash seat s m records pool locks change =
    IsCallingAt hash seat m.call s m.undecided m.stage records pool locks change
