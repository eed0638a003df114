-- What is noted leads on from the system that the pages and the journal have. docs/FORMAT.md, "Calls".
use Rattle.std.specs.Prelude.{ℕ, ◌≡◌, ⊤, true, false, IsTrue, List, Result, Ok, Err}
use Rattle.queue_model.specs.State.{State}
use Rattle.queue_model.specs.declared.answer.Answer.{Answer}
use Rattle.queue_model.specs.declared.call.Call.{Call}
use Rattle.queue_model.specs.declared.caller.Caller.{Caller}
use Rattle.session.specs.Session.{Holds, SessionState, Stops}
use Rattle.session.specs.declared.unanswered.Unanswered.{Unanswered}
use Rattle.session.specs.declared.unanswered.Unanswered.TheVariants.{Waits, NoRoom, NoMemory, Failed}
use Rattle.call_entries.specs.Entries.{LeadsBy, spelled}
use Rattle.call_entries.specs.declared.entry.CallEntry.{CallEntry}
use Rattle.msgq_c.specs.Files.{fresh}
use Rattle.msgq_c.specs.Keeping.{IsSaved, Makes, noted}
use Rattle.msgq_c.specs.declared.kept.Kept.{Kept}

-- these bytes are the entries of calls which the rules answer so, and which lead from a system to another
pub record LeadOn (bytes : List ℕ) (s t : State) : Type 0 where
  pub entries : List CallEntry
  pub is : bytes ≡ spelled entries
  pub leads : LeadsBy entries s t

-- a file is not stopped for who opens it
abbrev pub running : State → State
running s = record s { stopped = false }

-- this system is held, and what is to be noted leads to it from the one that pages and journal have, unless an entry
-- was left out
pub record LeadsTo (s : State) (k : Kept) (t : State) : Type 0 where
  pub holds : Holds t k.session
  pub leads : IsTrue k.log.is_whole → LeadOn k.log.bytes s (running t)

-- it does so from a system to that which is held now
pub record StillLeads (s : State) (k : Kept) : Type 0 where
  pub now : State
  pub leads : LeadsTo s k now

-- behind a call, unless the file has failed
abbrev pub LeadsBehind : Result Answer Unanswered → State → Kept → Type 0
LeadsBehind (Ok answer) s new = StillLeads s new
LeadsBehind (Err Waits) s new = StillLeads s new
LeadsBehind (Err NoRoom) s new = StillLeads s new
LeadsBehind (Err NoMemory) s new = StillLeads s new
LeadsBehind (Err Failed) s new = ⊤

abbrev pub CallsLeadOn : Type 0
CallsLeadOn = (s t : State) (call : Call) (result : Result Answer Unanswered) (old new : Kept) → LeadsTo s old t →
    Makes call result old new → LeadsBehind result s new

-- so it is over all that is done
pub record NotesLeadOn : Type 0 where
  -- from an opening on
  pub opened : (s : State) (caller : Caller) (k : SessionState) → Holds s k → LeadsTo (running s) (fresh caller k) s
  pub calls : CallsLeadOn
  pub stops : (s t : State) (k : Kept) (new : SessionState) → LeadsTo s k t → Stops k.session new →
      StillLeads s (record k { session = new })
  -- once they are noted, or the pages are saved, it leads on from there
  pub noted_so : (s t : State) (k : Kept) → LeadsTo s k t → LeadsTo (running t) (noted k) t
  pub saved_so : (s t : State) (old new : Kept) → LeadsTo s old t → IsSaved true old new → LeadsTo (running t) new t
