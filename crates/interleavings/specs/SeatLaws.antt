-- Laws of a seat beside a step of another. Each is the contract of a function of seat_laws.rt.
use Rattle.std.specs.Prelude.{ℕ, ◌≡◌, ◌≢◌, ◌+◌, IsTrue, List, Option, Some}
use Rattle.std.specs.List.{Contains}
use Rattle.page_locks.specs.declared.lock.LockName.TheVariants as names_are
use Rattle.interleavings.specs.SeatWords.{AreAlike, AreSameUnder, AsksOn, Call, Change, Exclusive, FileFault, HasNoFileLock, IsAsking, IsFiled, IsLawful, IsPaying, IsSoundWorld, IsUndecided, Known, Lock, LockName, Owns, Plan, PoolState, Progress, QuestionsView, Record, RecordKey, Records, Sees, Stage, StandsAt, State, Step, Store, Table, Turn, UndecidedCall, guard_of, held, names_in, questions_facts, questions_locks, record_of, row_of, store_of, world}
use Rattle.interleavings.specs.Beside.{AreApart, CountsAll, CountsUnder, HoldsNames, LeadsBeside, LeavesSeat}

-- ---- a step of another seat

abbrev pub OthersLeave : Type 0
OthersLeave = (hash : RecordKey → ℕ) (seat other : ℕ) (turn : Turn) (did : Progress FileFault) (facts : List Known)
    (pool pool' : PoolState) (locks locks' : Table) (change : Change) → seat ≢ other →
    IsSoundWorld hash (world pool.images locks change) → IsTrue pool'.honest →
    (step : Step hash other turn did facts pool pool' locks locks' change) →
    LeavesSeat hash seat pool pool' locks locks' change step.after

-- what a seat does not hold Exclusive stands after its step
abbrev pub LeaveWhatTheyRead : Type 0
LeaveWhatTheyRead = (hash : RecordKey → ℕ) (other : ℕ) (turn : Turn) (did : Progress FileFault) (facts : List Known)
    (pool pool' : PoolState) (locks locks' : Table) (change : Change) →
    Step hash other turn did facts pool pool' locks locks' change → (key : RecordKey) (found : Option Record) →
    held locks other (guard_of key) ≢ Some Exclusive →
    StandsAt (store_of pool.images) key found → StandsAt (store_of pool'.images) key found

abbrev pub SeesOn : Type 0
SeesOn = (hash : RecordKey → ℕ) (seat : ℕ) (facts : List Known) →
    LeadsBeside hash seat (Sees hash seat facts) (Sees hash seat facts)

-- and after its own step it sees what it knows then
abbrev pub SeesBehind : Type 0
SeesBehind = (hash : RecordKey → ℕ) (seat : ℕ) (turn : Turn) (did : Progress FileFault) (facts : List Known)
    (pool pool' : PoolState) (locks locks' : Table) (change : Change) → IsTrue pool'.honest →
    (step : Step hash seat turn did facts pool pool' locks locks' change) →
    Sees hash seat facts pool' locks' step.after

-- ---- names

abbrev pub PayUnderNames : Type 0
PayUnderNames = (hash : RecordKey → ℕ) (seat : ℕ) (names : List Lock) (p : Plan) (v : Stage) (records : Records)
    (pool : PoolState) (locks : Table) (change : Change) →
    IsPaying hash seat names p v records pool locks change → HoldsNames locks seat names

abbrev pub AskUnderNames : Type 0
AskUnderNames = (hash : RecordKey → ℕ) (seat : ℕ) (call : Call) (s : State) (u : UndecidedCall) (records : Records)
    (pool : PoolState) (locks : Table) (change : Change) →
    IsUndecided hash seat call s u records pool locks change → HoldsNames locks seat u.questions.names

-- what one seat holds in any kind no other holds Exclusive
abbrev pub NamesAreApart : Type 0
NamesAreApart = (seat other : ℕ) (names theirs : List Lock) (locks : Table) → seat ≢ other → IsLawful locks →
    HoldsNames locks seat names → HoldsNames locks other theirs → HasNoFileLock theirs → AreApart names theirs

-- so records under its names are the same where others write
abbrev pub RecordsStay : Type 0
RecordsStay = (names theirs : List Lock) (records after : Records) → AreApart names theirs →
    ((key : RecordKey) → (Owns theirs key → ⊥) → after key ≡ records key) →
    AreSameUnder names records after × AreAlike (names_in names) records after

-- ---- a call goes on

abbrev pub PaysOn : Type 0
PaysOn = (hash : RecordKey → ℕ) (seat : ℕ) (names : List Lock) (p : Plan) (v : Stage) (records others : Records) →
    AreSameUnder names records others →
    LeadsBeside hash seat (IsPaying hash seat names p v records) (IsPaying hash seat names p v others)

-- over a file that counts for the ids whose names it holds
abbrev pub StaysUndecided : Type 0
StaysUndecided = (hash : RecordKey → ℕ) (seat : ℕ) (call : Call) (s : State) (u : UndecidedCall)
    (records others : Records) → AreAlike (names_in u.questions.names) records others →
    LeadsBeside hash seat (IsUndecided hash seat call s u records) (λ pool locks change.
    CountsUnder (names_in u.questions.names) (store_of pool.images) s →
    IsUndecided hash seat call s u others pool locks change)

-- after its own step, by which it may have been granted a name: where under its names there stand the records of s
abbrev pub AsksUnderNewNames : Type 0
AsksUnderNewNames = (hash : RecordKey → ℕ) (seat : ℕ) (call : Call) (s : State) (q : QuestionsView) (records : Records)
    (pool : PoolState) (locks : Table) (change : Change) → AsksOn hash call s q →
    Sees hash seat (questions_facts q) pool locks change → row_of locks seat ≡ questions_locks q → IsFiled s →
    ((key : RecordKey) → Contains (names_in q.names) (guard_of key) →
    StandsAt (store_of pool.images) key (records key)) → AreAlike (names_in q.names) records (record_of s) →
    CountsUnder (names_in q.names) (store_of pool.images) s → IsAsking hash seat call s q records pool locks change

-- a file counts so unless the call holds the id that is still to be counted
abbrev pub CountsForOthers : Type 0
CountsForOthers = (names : List LockName) (store : Store) (s : State) (c : CountsAll store s) →
    (s.next_id ≡ c.counter.next_id + 1 → Contains names (names_are.Queue c.counter.next_id) → ⊥) →
    CountsUnder names store s
