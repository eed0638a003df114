-- What a decision means for the system of which the records were read.
-- docs/QUEUES.md, "Calls".
use Rattle.std.specs.Prelude.{◌≡◌, ◌⊎◌, ℕ, List, [], length, Some, None, Result, Ok, Err, ⊤, if◌then◌else◌}
use Rattle.std.specs.List.{All, find}
use Rattle.type_chains.specs.page_locks.declared.lock.LockName.{LockName}
use Rattle.queue_model.specs.declared.answer.Answer.{Answer}
use Rattle.queue_model.specs.declared.answer.Answer.TheVariants as answers
use Rattle.queue_model.specs.declared.call.Call.{Call}
use Rattle.queue_model.specs.declared.call.Call.TheVariants as calls
use Rattle.queue_model.specs.declared.caller.Caller.{Caller}
use Rattle.queue_model.specs.declared.errno.Errno.{Errno}
use Rattle.queue_model.specs.declared.errno.Errno.TheVariants.{EINTR}
use Rattle.queue_model.specs.declared.queue.Queue.{Queue}
use Rattle.queue_model.specs.Rules.{Outcome, has_id, outcome, refuse}
use Rattle.queue_model.specs.State.{State}
use Rattle.type_chains.specs.Lists.{serials}
use Rattle.type_chains.specs.Neighbours.{first_of}
use Rattle.type_chains.specs.RecordOf.{record_of}
use Rattle.xsi_inquiry.specs.declared.decision.Decision.{Decision}
use Rattle.xsi_inquiry.specs.declared.decision.Decision.TheVariants.{PutOff, Answers, Sweeps}
use Rattle.xsi_inquiry.specs.declared.decision.Sweep.{Sweep}
use Rattle.xsi_inquiry.specs.declared.inquiry.NotASystem.{NotASystem}
use Rattle.xsi_inquiry.specs.declared.verdict.Verdict.{Verdict}
use Rattle.xsi_inquiry.specs.declared.verdict.Verdict.TheVariants as verdicts
use Rattle.xsi_inquiry.specs.Owning.{IsOrdered, IsUnder}
use Rattle.xsi_inquiry.specs.Sweeping.{swept}
use Rattle.xsi_inquiry.specs.Writing.{KeepsAll, Leads, Plan, nothing}

-- the answer that a verdict stands for; a message that is received has the bytes that are in the room
abbrev pub answer_of : Verdict → List ℕ → Answer
answer_of (verdicts.Id id) bytes = answers.Id id
answer_of (verdicts.Sent serial) bytes = answers.Sent serial
answer_of (verdicts.Received m) bytes =
    answers.Received (record { serial = m.serial; sender = m.sender; mtype = m.mtype; bytes = bytes })
answer_of (verdicts.Info info) bytes = answers.Info info
answer_of verdicts.Done bytes = answers.Done
answer_of (verdicts.Refused errno) bytes = answers.Refused errno

-- answers with which nothing is written: a refusal, what Stat tells, and the id that a Get found
abbrev pub IsIdle : Verdict → State → State → Type 0
IsIdle (verdicts.Id id) s after = after ≡ s
IsIdle (verdicts.Sent serial) s after = ⊥
IsIdle (verdicts.Received m) s after = ⊥
IsIdle (verdicts.Info info) s after = ⊤
IsIdle verdicts.Done s after = ⊥
IsIdle (verdicts.Refused errno) s after = ⊤

-- a call that holds these names Exclusive is answered so, and the plan takes the records of s to those of the system
-- after it
pub record IsAnswered (c : Caller) (call : Call) (names : List LockName) (bytes : List ℕ) (s : State)
    (verdict : Verdict) (p : Plan) : Type 0 where
  pub after : State
  pub outcome : outcome c call s ≡ Some (answer_of verdict bytes, after)
  pub leads : Leads p (record_of s) (record_of after)
  pub own : IsUnder names p
  pub idle : IsIdle verdict s after → p ≡ nothing
  pub ordered : IsOrdered p

-- a Remove is Done: the queue's messages are swept from the first serial on, and the plan takes what is left to the
-- records of the system after it
pub record IsSwept (c : Caller) (call : Call) (names : List LockName) (s : State) (sweep : Sweep) (p : Plan)
    : Type 0 where
  pub queue : Queue
  pub after : State
  pub is_remove : call ≡ calls.Remove sweep.id
  pub alive : find (has_id sweep.id) s.queues ≡ Some queue
  pub outcome : outcome c call s ≡ Some (answers.Done, after)
  pub first_left : sweep.first ≡ first_of (serials queue.messages)
  -- nothing is inserted once the messages are gone
  pub no_trials : p.trials ≡ []
  pub leads : Leads p (swept sweep.id (length queue.messages) s) (record_of after)
  pub own : IsUnder names p
  pub ordered : IsOrdered p

-- what becomes of a call that can't be done now, by the stop mark
abbrev pub waits_or_ends : State → Outcome
waits_or_ends s = if s.stopped then refuse EINTR s else None

-- nothing is written by a call that is put off
pub record IsPutOff (c : Caller) (call : Call) (s : State) (p : Plan) : Type 0 where
  pub outcome : outcome c call s ≡ waits_or_ends s
  pub idle : p ≡ nothing

-- the decision, with its plan and these bytes in the room, is the outcome by the rules
abbrev pub Decides : Caller → Call → List LockName → List ℕ → State → Decision → Plan → Type 0
Decides c call names bytes s PutOff p = IsPutOff c call s p
Decides c call names bytes s (Answers verdict) p = IsAnswered c call names bytes s verdict p
Decides c call names bytes s (Sweeps sweep) p = IsSwept c call names s sweep p

-- the decision that refuses
abbrev pub refuses : Errno → Decision
refuses errno = Answers (verdicts.Refused errno)

-- ---- what is inserted

-- verdicts with which records are inserted: the id of a queue that is made, and the serial of a message
abbrev pub MayInsert : Verdict → Type 0
MayInsert (verdicts.Id id) = ⊤
MayInsert (verdicts.Sent serial) = ⊤
MayInsert (verdicts.Received m) = ⊥
MayInsert (verdicts.Info info) = ⊥
MayInsert verdicts.Done = ⊥
MayInsert (verdicts.Refused errno) = ⊥

abbrev pub DecidesToInsert : Result Decision NotASystem → Type 0
DecidesToInsert (Ok PutOff) = ⊥
DecidesToInsert (Ok (Answers verdict)) = MayInsert verdict
DecidesToInsert (Ok (Sweeps sweep)) = ⊥
DecidesToInsert (Err e) = ⊤

-- a plan inserts with such a verdict alone, and then nothing is deleted
abbrev pub InsertsOnlyFor : Result Decision NotASystem → Plan → Type 0
InsertsOnlyFor decided p = (p.trials ≡ []) ⊎ (DecidesToInsert decided × All KeepsAll p.slots)
