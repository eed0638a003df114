-- A session, who makes its calls, and what is noted of them; and calls that are made again. docs/QUEUES.md, "Calls";
-- docs/FORMAT.md, "Calls".
use Rattle.std.specs.Prelude.{ℕ, ◌≡◌, ⊤, Bool, true, false, ◌||◌, IsTrue, List, ◌++◌, length, take, Option, Some, None, Result, Ok, Err}
use Rattle.queue_model.specs.State.{State}
use Rattle.queue_model.specs.declared.answer.Answer.{Answer}
use Rattle.queue_model.specs.declared.call.Call.{Call}
use Rattle.session.specs.Session.{Becomes, Holds, NotesSave, saved_of}
use Rattle.session.specs.declared.unanswered.Unanswered.{Unanswered}
use Rattle.session.specs.declared.unanswered.Unanswered.TheVariants.{Waits, NoRoom, NoMemory, Failed}
use Rattle.call_entries.specs.Entries.{IsMade, LeadsBy, spelled}
use Rattle.call_entries.specs.Log.{Notes, empty}
use Rattle.call_entries.specs.Log as log
use Rattle.call_entries.specs.declared.entry.CallEntry.{CallEntry}
use Rattle.msgq_c.specs.declared.kept.Kept.{Kept}

-- ---- a call is made

abbrev pub answer_of : Result Answer Unanswered → Option Answer
answer_of (Ok answer) = Some answer
answer_of (Err why) = None

abbrev pub lacks_room : Result Answer Unanswered → Bool
lacks_room (Ok answer) = false
lacks_room (Err Waits) = false
lacks_room (Err NoRoom) = true
lacks_room (Err NoMemory) = false
lacks_room (Err Failed) = false

-- the caller makes a call, and its entry stands behind the others where it may have changed the system
pub record Makes (call : Call) (result : Result Answer Unanswered) (old new : Kept) : Type 0 where
  pub becomes : (s : State) → Holds s old.session → Becomes (Some old.caller) call s result old.session new.session
  pub notes : Notes (log.noted old.caller call (answer_of result)) old.log new.log
  pub room : new.lacked_room ≡ (old.lacked_room || lacks_room result)
  pub caller : new.caller ≡ old.caller
  pub saved : saved_of new.session ≡ saved_of old.session

-- ---- calls are noted

-- these bytes are the entries of all calls that are to be noted; there are none where a call lacked room
pub record AreNotes (into : List ℕ) (count : ℕ) (k : Kept) : Type 0 where
  pub whole : IsTrue k.log.is_whole
  pub bytes : take count into ≡ k.log.bytes
  pub many : count ≡ length k.log.bytes
  pub room : k.lacked_room ≡ true → count ≡ 0

abbrev pub CopiesNotes : (into : List ℕ) → Option ℕ → Kept → Type 0
CopiesNotes into (Some count) k = AreNotes into count k
CopiesNotes into None k = ⊤

-- none is left to be noted
abbrev pub noted : Kept → Kept
noted k = record k { log = empty }

-- nor is there where its pages are those that were saved; or it has failed
abbrev pub IsSaved : Bool → (old new : Kept) → Type 0
IsSaved true old new =
    NotesSave true old.session new.session
    × (new ≡ record old { session = new.session; log = empty; lacked_room = false })
IsSaved false old new = NotesSave false old.session new.session × (new ≡ record old { session = new.session })

-- ---- calls are made again

-- the session is another, whose saved pages are the same
pub record Keeps (old new : Kept) : Type 0 where
  pub others : new ≡ record old { session = new.session }
  pub saved : saved_of new.session ≡ saved_of old.session

-- the call of an entry was made, and answered as it says
pub record HasMade (e : CallEntry) (s : State) (new : Kept) : Type 0 where
  pub after : State
  pub made : IsMade e s after
  pub holds : Holds after new.session

pub record MakesAgain (e : CallEntry) (old new : Kept) : Type 0 where
  pub made : (s : State) → Holds s old.session → HasMade e s new
  pub keeps : Keeps old new

-- so were those of the bytes before the rest
pub record HasMadeAll (calls rest : List ℕ) (s : State) (new : Kept) : Type 0 where
  pub after : State
  pub entries : List CallEntry
  pub is : calls ≡ spelled entries ++ rest
  pub leads : LeadsBy entries s after
  pub holds : Holds after new.session

pub record MakesAll (calls rest : List ℕ) (old new : Kept) : Type 0 where
  pub made : (s : State) → Holds s old.session → HasMadeAll calls rest s new
  pub keeps : Keeps old new
