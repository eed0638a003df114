-- Laws of calls. Each is the contract of a function of laws.rt.
use Rattle.std.specs.Prelude.{ℕ, ◌≡◌, ◌≤◌, [], None}
use Rattle.queue_model.specs.declared.call.Call.TheVariants.{Receive}
use Rattle.queue_model.specs.declared.call.ReceiveArguments.{ReceiveArguments}
use Rattle.xsi_calls.specs.Stages.{Undecided}
use Rattle.xsi_calls.specs.ToldNames.{AreNamesIn}
use Rattle.xsi_calls.specs.Words.{Agrees, AreNamesOf, Sees, Change, PoolState, RecordKey, Records, State, Store, Table, most_asked, row_of, store_of}
use Rattle.xsi_calls.specs.Machine.{CallView, IsNew, call_left, finds_of}
use Rattle.xsi_calls.specs.Calling.{IsCalling}

-- the steps of a call that has just begun, if no other seat steps
abbrev pub MOST_CALL_STEPS : ℕ
MOST_CALL_STEPS = 1905581

abbrev pub HaveFewSteps : Type 0
HaveFewSteps = (m : CallView) (s : Store) → IsNew m → call_left m s ≤ MOST_CALL_STEPS

-- and of one that has come to any of its places by its own steps, beside those of others, which may have moved what the
-- access under way looks for
abbrev pub MOST_STEPS_LEFT : ℕ
MOST_STEPS_LEFT = 2045185

abbrev pub HaveFewStepsLeft : Type 0
HaveFewStepsLeft = (hash : RecordKey → ℕ) (seat : ℕ) (s : State) (m : CallView) (records : Records) (pool : PoolState)
    (locks : Table) (change : Change) → IsCalling hash seat s m records pool locks change →
    call_left m (store_of pool.images) ≤ MOST_STEPS_LEFT

-- at each of its places the names that it holds are its own, in their kinds
abbrev pub HoldTheirNames : Type 0
HoldTheirNames = (hash : RecordKey → ℕ) (seat : ℕ) (s : State) (m : CallView) (records : Records) (pool : PoolState)
    (locks : Table) (change : Change) → IsCalling hash seat s m records pool locks change →
    AreNamesOf m.call m.undecided.questions.names

-- until its Decide the queue that a Get names is the next id of the system, and the key that a Remove names, unless it
-- is refused, that of its queue
abbrev pub NameWhatIsThere : Type 0
NameWhatIsThere = (hash : RecordKey → ℕ) (seat : ℕ) (s : State) (m : CallView) (records : Records) (pool : PoolState)
    (locks : Table) (change : Change) → m.stage ≡ Undecided → IsCalling hash seat s m records pool locks change →
    AreNamesIn m.call m.undecided.questions.inquiry s m.undecided.questions.names

-- a call that has not decided, and inserts nothing on trial yet, has begun no more searches than it may ask questions
abbrev pub BeginFewSearches : Type 0
BeginFewSearches = (hash : RecordKey → ℕ) (seat : ℕ) (s : State) (m : CallView) (records : Records) (pool : PoolState)
    (locks : Table) (change : Change) → m.stage ≡ Undecided → m.undecided.trials ≡ None →
    IsCalling hash seat s m records pool locks change → finds_of m ≤ most_asked m.call

-- a Receive, which inserts nothing on trial, has begun three at most
abbrev pub ReceiveByThree : Type 0
ReceiveByThree = (hash : RecordKey → ℕ) (seat : ℕ) (s : State) (m : CallView) (records : Records) (pool : PoolState)
    (locks : Table) (change : Change) (a : ReceiveArguments) → m.call ≡ Receive a → m.stage ≡ Undecided →
    IsCalling hash seat s m records pool locks change → finds_of m ≤ 3

-- a call that has just begun: over each system with which the file agrees, and whatever records stand
abbrev pub BeginRight : Type 0
BeginRight = (hash : RecordKey → ℕ) (seat : ℕ) (s : State) (m : CallView) (records : Records) (pool : PoolState)
    (locks : Table) (change : Change) → IsNew m → row_of locks seat ≡ [] → Sees hash seat [] pool locks change →
    Agrees [] (store_of pool.images) s → IsCalling hash seat s m records pool locks change
