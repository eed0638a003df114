-- Laws of payments. Each is the contract of a function of payment_laws.rt.
-- docs/STEPS.md, "What a call writes", "Remove".
use Rattle.std.specs.Prelude.{ℕ, ◌≡◌, List, true, Some, None, take, ⊤}
use Rattle.std.specs.List.{Contains}
use Rattle.call_decisions.specs.declared.settled.Settled.TheVariants as settlements
use Rattle.call_decisions.specs.Owing as owed
use Rattle.call_writes.specs.PaymentStages.{Stage}
use Rattle.call_writes.specs.PaymentWords.{RecordKey, PoolState, Table, Lock, Change, Exclusive, LockName, kind_of, Owns, Call, Caller, State, record_of, IsFiled, Plan, Records, inserted, OwesUnder, overlaid, Settled, AreAlike, Means, Trying, Full, CallWrites, IsCarrying}
use Rattle.call_writes.specs.Payments.{IsPaid, begun_payment, owes_now}
use Rattle.call_writes.specs.Paying.{IsPaying}

-- ---- its beginning

-- a call rests after its trials, which all stand: the records under its names are those of the system with the trials
pub record HasTried (hash : RecordKey → ℕ) (seat : ℕ) (names : List Lock) (held : List LockName) (p : Plan)
    (trials : CallWrites) (records : Records) (s : State) (pool : PoolState) (locks : Table) (change : Change)
    : Type 0 where
  pub carries : IsCarrying hash seat names p trials records pool locks change
  pub rests : trials.access ≡ None
  pub place : ℕ
  pub due : trials.due ≡ Trying place
  pub alike : AreAlike held records (inserted p.trials (record_of s))

-- a Remove that sweeps holds its names exclusively
abbrev pub HoldsWhereSwept : List Lock → List LockName → Settled → Type 0
HoldsWhereSwept names held (settlements.Answers verdict) = ⊤
HoldsWhereSwept names held (settlements.Sweeps sweep) =
    (name : LockName) → Contains held name → kind_of names name ≡ Some Exclusive
HoldsWhereSwept names held settlements.Waits = ⊤

-- the records once all is paid: those of the system after; of a call that waits those that stand
abbrev pub last_of : (c : Caller) (call : Call) (held : List LockName) (bytes : List ℕ) (s : State) (p : Plan)
    (settled : Settled) → Means c call held bytes s p settled → Records → Records
last_of c call held bytes s p (settlements.Answers verdict) is records = record_of is.after
last_of c call held bytes s p (settlements.Sweeps sweep) is records = record_of is.answer.after
last_of c call held bytes s p settlements.Waits is records = records

-- it pays; it owes records under these names alone, and under them there will stand those
pub record WillPay (hash : RecordKey → ℕ) (seat : ℕ) (names : List Lock) (held : List LockName) (p : Plan)
    (v : Stage) (records last : Records) (pool : PoolState) (locks : Table) (change : Change) : Type 0 where
  pub pays : IsPaying hash seat names p v records pool locks change
  pub own : OwesUnder held (owes_now p v)
  pub leads : AreAlike held (overlaid (owes_now p v) records) last

-- a call that has come to this pays what it means
abbrev pub PaysWhatIsDecided : Type 0
PaysWhatIsDecided = (hash : RecordKey → ℕ) (seat : ℕ) (names : List Lock) (held : List LockName) (p : Plan)
    (trials : CallWrites) (records : Records) (s : State) (pool : PoolState) (locks : Table) (change : Change) →
    HasTried hash seat names held p trials records s pool locks change → IsFiled s →
    (c : Caller) (call : Call) (bytes : List ℕ) (settled : Settled) → HoldsWhereSwept names held settled →
    (is : Means c call held bytes s p settled) →
    WillPay hash seat names held p (begun_payment hash (Some settled) trials.due) records
    (last_of c call held bytes s p settled is records) pool locks change

-- where a trial had no room it owes the deletion of those that stand, the last first
abbrev pub UndoesItsTrials : Type 0
UndoesItsTrials = (hash : RecordKey → ℕ) (seat : ℕ) (names : List Lock) (p : Plan) (trials : CallWrites)
    (records : Records) (pool : PoolState) (locks : Table) (change : Change) (standing : ℕ) →
    IsCarrying hash seat names p trials records pool locks change → trials.access ≡ None →
    trials.due ≡ Full standing →
    IsPaying hash seat names p (begun_payment hash None trials.due) records pool locks change
    × (owes_now p (begun_payment hash None trials.due) ≡ owed.Writes (owed.undoing (take standing p.trials)))

-- ---- while it lasts

-- it owes records alone of which the names are held exclusively
abbrev pub OwesWhatItHolds : Type 0
OwesWhatItHolds = (hash : RecordKey → ℕ) (seat : ℕ) (names : List Lock) (p : Plan) (v : Stage) (records : Records)
    (pool : PoolState) (locks : Table) (change : Change) →
    IsPaying hash seat names p v records pool locks change →
    (key : RecordKey) → owed.owes_at (owes_now p v) key ≡ true → Owns names key

-- ---- its end

-- where nothing is left to do nothing is owed
abbrev pub OwesNothingAtEnd : Type 0
OwesNothingAtEnd = (hash : RecordKey → ℕ) (seat : ℕ) (names : List Lock) (p : Plan) (v : Stage) (records : Records)
    (pool : PoolState) (locks : Table) (change : Change) →
    IsPaying hash seat names p v records pool locks change → IsPaid p v →
    (key : RecordKey) → overlaid (owes_now p v) records key ≡ records key

-- ---- its steps

-- those of a sweep, and those of a plan
abbrev pub MOST_PAYMENT_STEPS : ℕ
MOST_PAYMENT_STEPS = 1610979
