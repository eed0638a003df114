-- Laws of a call that has not decided beside the decisions of others.
-- Each is the contract of a function of seat_laws.rt.
-- docs/STEPS.md, "What a call reads", "Locks".
use Rattle.std.specs.Prelude.{ℕ, ◌≡◌, ◌⊎◌, ◌+◌, Bool, List, [], Option, None, Some}
use Rattle.std.specs.List.{Contains}
use Rattle.call_decisions.specs.declared.settled.Settled.TheVariants as settlements
use Rattle.page_locks.specs.declared.lock.LockName.TheVariants as names_are
use Rattle.interleavings.specs.SeatWords.{Answer, AnyInquiry, Call, CallWrites, Caller, Change, DecidesApart, FileFault, GoesOn, HoldsOwn, IsAnswer, IsBehind, IsFiled, IsSettled, IsTrying, IsUndecided, KnowsNear, KnowsOf, LockName, Owes, PoolState, Progress, QuestionsView, Record, RecordKey, Records, Roomful, State, Sweep, Table, Trials, UndecidedCall, Verdict, asked_of, caller_of, locked_of, names_for, names_in, outcome, writes_owed}
use Rattle.interleavings.specs.Apart.{IsAsGood, IsKeptApart}
use Rattle.interleavings.specs.Beside.{AreApart}

-- over a system that the call can't tell from s
abbrev pub GoesOver : Type 0
GoesOver = (hash : RecordKey → ℕ) (seat : ℕ) (call : Call) (s after : State) (u : UndecidedCall) (records : Records)
    (pool : PoolState) (locks : Table) (change : Change) → IsAsGood call u.questions s after →
    IsUndecided hash seat call s u records pool locks change →
    IsUndecided hash seat call after u records pool locks change

-- so is each that another call leads to, which writes under none of the names that it holds
abbrev pub OthersDecide : Type 0
OthersDecide = (call other : Call) (q : QuestionsView) (i : AnyInquiry) (s after : State) → IsFiled s → IsFiled after →
    IsKeptApart call q → DecidesApart (names_in q.names) other i s after → IsAsGood call q s after

-- so is the same system once it is stopped
abbrev pub StopsBeside : Type 0
StopsBeside = (call : Call) (q : QuestionsView) (s : State) (stopped : Bool) →
    IsFiled (record s { stopped = stopped }) → IsAsGood call q s (record s { stopped = stopped })

-- ---- a call that is settled

-- a call that writes nothing leaves the system
abbrev pub LeavesWhatItDoesNotWrite : Type 0
LeavesWhatItDoesNotWrite = (c : Caller) (call : Call) (held : List LockName) (trials : List Record) (answer : Answer)
    (o : Owes) (s : State) (is : IsAnswer c call held trials answer o s) → trials ≡ [] → writes_owed o ≡ [] →
    is.after ≡ s

-- where it writes it holds the names Exclusive under which it does; so the others go over to the system after it
abbrev pub OthersAnswer : Type 0
OthersAnswer = (hash : RecordKey → ℕ) (other : ℕ) (theirs : Call) (s : State) (r : QuestionsView) (verdict : Verdict)
    (trials : CallWrites) (records : Records) (pool : PoolState) (locks : Table) (change : Change)
    (is : IsSettled hash other theirs s r (settlements.Answers verdict) trials records pool locks change) →
    IsFiled s → KnowsNear theirs r s → asked_of theirs r.inquiry ≡ None → IsFiled is.means.after →
    (call : Call) (q : QuestionsView) → IsKeptApart call q → AreApart q.names r.names →
    IsAsGood call q s is.means.after

abbrev pub OthersSweep : Type 0
OthersSweep = (hash : RecordKey → ℕ) (other : ℕ) (theirs : Call) (s : State) (r : QuestionsView) (sweep : Sweep)
    (trials : CallWrites) (records : Records) (pool : PoolState) (locks : Table) (change : Change)
    (is : IsSettled hash other theirs s r (settlements.Sweeps sweep) trials records pool locks change) →
    IsFiled s → KnowsNear theirs r s → asked_of theirs r.inquiry ≡ None → IsFiled is.means.answer.after →
    (call : Call) (q : QuestionsView) → IsKeptApart call q → AreApart q.names r.names →
    IsAsGood call q s is.means.answer.after

-- ---- calls that others leave what they know

-- one that has just begun
abbrev pub BeginApart : Type 0
BeginApart = (call : Call) (q : QuestionsView) → ((s : State) → KnowsNear call q s) → IsKeptApart call q

-- one that holds exactly the names which it needs, and so that of the queue, or of the key, that it was given
abbrev pub HoldApart : Type 0
HoldApart = (call : Call) (q : QuestionsView) (s : State) → IsFiled s → KnowsNear call q s →
    q.names ≡ names_for call q.inquiry → HoldsOwn call (names_in q.names) × IsKeptApart call q

-- and one on trial, which holds them
abbrev pub TryApart : Type 0
TryApart = (hash : RecordKey → ℕ) (seat : ℕ) (call : Call) (s : State) (q : QuestionsView) (t : Trials)
    (records : Records) (pool : PoolState) (locks : Table) (change : Change) →
    IsTrying hash seat call s q t records pool locks change → IsKeptApart call q

-- ---- by its own steps

-- one that has not decided
abbrev pub StaysApart : Type 0
StaysApart = (hash : RecordKey → ℕ) (seat : ℕ) (call : Call) (s : State) (u : UndecidedCall) (records : Records)
    (pool : PoolState) (locks : Table) (change : Change) →
    IsUndecided hash seat call s u records pool locks change → IsKeptApart call u.questions

-- also after its own step, before it is told anew that the file agrees under its names
abbrev pub BehindApart : Type 0
BehindApart = (hash : RecordKey → ℕ) (seat : ℕ) (call : Call) (s : State) (q : QuestionsView) (t : Option Trials)
    (records : Records) (pool : PoolState) (locks : Table) (change : Change) →
    IsBehind hash seat call s q t records pool locks change → IsKeptApart call q

abbrev pub StepsApart : Type 0
StepsApart = (hash : RecordKey → ℕ) (seat : ℕ) (call : Call) (s : State) (did : Progress FileFault)
    (old new : UndecidedCall) (records : Records) (pool pool' : PoolState) (locks locks' : Table) (change : Change) →
    GoesOn hash seat call s did old new records pool pool' locks locks' change → IsKeptApart call new.questions

-- ---- ids

-- the next id stays, or a queue was made of it, whose name the call holds Exclusive
pub record GivesOut (call : Call) (i : AnyInquiry) (s after : State) : Type 0 where
  pub next : after.next_id ≡ s.next_id + 1
  pub under : Contains (locked_of call i) (names_are.Queue s.next_id)

abbrev pub IdsAreGivenOutUnderNames : Type 0
IdsAreGivenOutUnderNames = (call : Call) (i : AnyInquiry) (room : Roomful) (s : State) (answer : Answer)
    (after : State) → IsFiled s → KnowsOf call i room s → asked_of call i ≡ None →
    outcome (caller_of i) call s ≡ Some (answer, after) →
    (after.next_id ≡ s.next_id) ⊎ GivesOut call i s after
