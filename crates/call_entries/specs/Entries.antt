-- Calls that changed a system, as bytes one behind the other. docs/FORMAT.md, "Calls"; docs/QUEUES.md, "Journals".
use Rattle.std.specs.Prelude.{ℕ, ◌≡◌, ◌<◌, ◌^◌, ⊤, Bool, true, false, not, is_some, ◌&&◌, ◌||◌, if◌then◌else◌, List, [], ◌∷◌, ◌++◌, Option, Some, None, Result, Ok, Err}
use Rattle.queue_model.specs.Rules.{outcome}
use Rattle.queue_model.specs.State.{State}
use Rattle.queue_model.specs.declared.answer.Answer.{Answer}
use Rattle.queue_model.specs.declared.answer.Answer.TheVariants.{Id, Sent, Received, Info, Done, Refused}
use Rattle.queue_model.specs.declared.call.Call.{Call}
use Rattle.queue_model.specs.declared.call.Call.TheVariants.{Get, Send, Receive, Stat, Set, Remove}
use Rattle.queue_model.specs.declared.caller.Caller.{Caller}
use Rattle.frames.specs.Little.{eight}
use Rattle.frames.specs.Records.{Fits}
use Rattle.frames.specs.Spelling.{asked_by, call_record}
use Rattle.frames.specs.declared.spelling.Asker.{Asker}
use Rattle.call_entries.specs.declared.entry.CallEntry.{CallEntry}
use Rattle.call_entries.specs.declared.reading.Unreadable.{Unreadable}
use Rattle.call_entries.specs.declared.reading.Unreadable.TheVariants.{NoEntry, NoMemory}

-- ---- what of a call is written down

-- whether a call changes the system where it is not refused; a Get of a key may find its queue
abbrev pub may_change : Call → Bool
may_change (Get a) = a.create || not (is_some a.key)
may_change (Send a) = true
may_change (Receive a) = true
may_change (Stat id) = false
may_change (Set a) = true
may_change (Remove id) = true

abbrev pub is_refusal : Answer → Bool
is_refusal (Id id) = false
is_refusal (Sent serial) = false
is_refusal (Received m) = false
is_refusal (Info q) = false
is_refusal Done = false
is_refusal (Refused errno) = true

-- what an answer tells by which a call that is made again is checked
abbrev pub check_of : Answer → ℕ
check_of (Id id) = id
check_of (Sent serial) = serial
check_of (Received m) = m.serial
check_of (Info q) = 0
check_of Done = 0
check_of (Refused errno) = 0

-- the moment of a call, or 0 where it has none
abbrev pub moment_of : Call → ℕ
moment_of (Get a) = a.moment
moment_of (Send a) = a.moment
moment_of (Receive a) = a.moment
moment_of (Stat id) = 0
moment_of (Set a) = a.moment
moment_of (Remove id) = 0

abbrev pub entry_of : Caller → Call → Answer → CallEntry
entry_of caller call answer = record { caller = caller; call = call; check = check_of answer }

-- the entry of a call that has this answer, where it may have changed the system
abbrev pub entries_of : Caller → Call → Answer → List CallEntry
entries_of caller call answer =
    if may_change call && not (is_refusal answer) then entry_of caller call answer ∷ [] else []

-- ---- its bytes

-- nobody is told
abbrev pub nobody : Asker
nobody = record { connection = 0; number = 0 }

-- the moment, and the record by which the call is asked for
abbrev pub front : Caller → Call → List ℕ
front caller call = eight (moment_of call) ++ call_record nobody caller call

-- and behind them what its answer told
abbrev pub entry_bytes : CallEntry → List ℕ
entry_bytes e = front e.caller e.call ++ eight e.check

abbrev pub spelled : List CallEntry → List ℕ
spelled [] = []
spelled (e ∷ es) = entry_bytes e ++ spelled es

-- numbers that fit, as those of each value of the program do, and a body that is not too long
pub record FitsEntry (e : CallEntry) : Type 0 where
  pub moment : moment_of e.call < 2 ^ 64
  pub check : e.check < 2 ^ 64
  pub asked : Fits (asked_by nobody e.caller e.call)

-- the first entry was taken off these bytes, or there is none left; or they begin with no entry
abbrev pub Reads : Result (Option CallEntry) Unreadable → (old new : List ℕ) → Type 0
Reads (Ok None) old new = old ≡ []
Reads (Ok (Some e)) old new = old ≡ entry_bytes e ++ new
Reads (Err NoEntry) old new = (e : CallEntry) (rest : List ℕ) → FitsEntry e → old ≡ entry_bytes e ++ rest → ⊥
Reads (Err NoMemory) old new = ⊤

-- ---- what the calls lead to

-- the rules answer the call of an entry as it says
pub record IsMade (e : CallEntry) (s t : State) : Type 0 where
  pub answer : Answer
  pub by_rules : outcome e.caller e.call s ≡ Some (answer, t)
  pub told : check_of answer ≡ e.check

-- each from the system that the one before led to
abbrev pub LeadsBy : List CallEntry → State → State → Type 0
LeadsBy [] s t = t ≡ s
LeadsBy (e ∷ es) s t = (u : State) × IsMade e s u × LeadsBy es u t
