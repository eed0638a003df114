-- What a call has come to at its Decide. docs/STEPS.md, "Calls".
use Rattle.std.specs.Prelude.{ℕ, ◌≡◌, ◌≢◌, Bool, Option, Some, None, if◌then◌else◌}
use Rattle.std.specs.List.{All, Contains}
use Rattle.call_writes.specs.declared.writes.CallWrites.{CallWrites}
use Rattle.call_writes.specs.call_decisions.declared.settled.Settled.TheVariants.{Sweeps}
use Rattle.xsi_calls.specs.declared.decided.Decided.{Decided}
use Rattle.xsi_calls.specs.Undecided.{Trials, UndecidedCall, its_plan, trials_of}
use Rattle.xsi_calls.specs.UndecidedWords.{AreAlike, Call, Change, Exclusive, Full, IsCarrying, LockName, Means, PoolState, QuestionsView, Record, RecordKey, Records, Settled, State, Sweep, Table, Trying, caller_of, guard_of, inserted, is_full, key_of, kind_of, locked_of, names_in, next_deed, nothing, record_of, settled_by}

-- it is to write: each name under which it does is held Exclusive, all that it inserts on trial is under one of these,
-- and under them, too, stand the records of s with all trials inserted
pub record MayWrite (call : Call) (s : State) (q : QuestionsView) (records : Records) : Type 0 where
  pub exclusive : (name : LockName) → Contains (locked_of call q.inquiry) name → kind_of q.names name ≡ Some Exclusive
  pub own : All (λ (r : Record). Contains (locked_of call q.inquiry) (guard_of (key_of r))) (its_plan call q).trials
  pub alike : AreAlike (locked_of call q.inquiry) records (inserted (its_plan call q).trials (record_of s))

-- the call is settled by the rules, and all its trials stand
pub record IsSettled (hash : RecordKey → ℕ) (seat : ℕ) (call : Call) (s : State) (q : QuestionsView)
    (settled : Settled) (trials : CallWrites) (records : Records) (pool : PoolState) (locks : Table) (change : Change)
    : Type 0 where
  pub means : Means (caller_of q.inquiry) call (locked_of call q.inquiry) q.room.bytes s (its_plan call q) settled
  pub place : ℕ
  pub tried : trials.due ≡ Trying place
  pub last : next_deed (its_plan call q) (Trying place) ≡ None
  pub rests : trials.access ≡ None
  pub carries : IsCarrying hash seat q.names (its_plan call q) trials records pool locks change
  -- under its names stand the records of s with all trials inserted
  pub alike : AreAlike (names_in q.names) records (inserted (its_plan call q).trials (record_of s))
  pub writes : its_plan call q ≢ nothing → MayWrite call s q records
  -- after a sweep something is written
  pub sweeps : (sweep : Sweep) → settled ≡ Sweeps sweep → its_plan call q ≢ nothing

-- a trial has no room: those that stand are to go again
pub record IsShortOfRoom (hash : RecordKey → ℕ) (seat : ℕ) (call : Call) (q : QuestionsView) (trials : CallWrites)
    (records : Records) (pool : PoolState) (locks : Table) (change : Change) : Type 0 where
  pub standing : ℕ
  pub full : trials.due ≡ Full standing
  pub rests : trials.access ≡ None
  pub carries : IsCarrying hash seat q.names (its_plan call q) trials records pool locks change

abbrev pub IsDecidedIn : (RecordKey → ℕ) → ℕ → Call → State → QuestionsView → Option Settled → CallWrites → Records →
    PoolState → Table → Change → Type 0
IsDecidedIn hash seat call s q None trials records pool locks change =
    IsShortOfRoom hash seat call q trials records pool locks change
IsDecidedIn hash seat call s q (Some settled) trials records pool locks change =
    IsSettled hash seat call s q settled trials records pool locks change

-- ---- by its trials

-- none where a trial has no room
abbrev pub settled_in : (stopped : Bool) → Trials → Option Settled
settled_in stopped t = if is_full t.writes then None else Some (settled_by stopped t.decision)

-- what a call with these questions and trials has decided
abbrev pub IsDecided : (RecordKey → ℕ) → ℕ → Call → State → UndecidedCall → Decided → Records → PoolState → Table →
    Change → Type 0
IsDecided hash seat call s u d records pool locks change =
    IsDecidedIn hash seat call s u.questions d.settled (trials_of u) records pool locks change
