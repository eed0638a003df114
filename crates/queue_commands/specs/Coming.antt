-- What calls come to that somebody answers, and how their answers are read. docs/SHELL.md, "What a command asks".
use Rattle.std.specs.Prelude.{◌≡◌, ℕ, List, [], Option, Some, Result, Ok, Err, ⊤}
use Rattle.queue_model.specs.State.{State}
use Rattle.queue_model.specs.declared.answer.Answer.{Answer}
use Rattle.queue_model.specs.declared.answer.Answer.TheVariants as answers
use Rattle.queue_model.specs.declared.answer.QueueInfo.{QueueInfo}
use Rattle.queue_model.specs.declared.message.Message.{Message}
use Rattle.queue_model.specs.declared.call.Call.{Call}
use Rattle.queue_commands.specs.Asking.{Asking, At, Halt, Refuses}
use Rattle.queue_commands.specs.declared.error.AskError.{AskError}
use Rattle.queue_commands.specs.declared.error.AskError.TheVariants.{NoMemory, Refused, Unanswered}

-- calls come to this, and leave a system of which this is so
pub record Leaves {A : Type 0} (Is : Asking A) (came : Result A Halt) (Stands : State → Type 0) : Type 0 where
  pub system : State
  pub is : Is came system
  pub stands : Stands system

-- one was not answered, for a cause that this call has in this system
pub record IsUnanswered {A : Type 0} (Is : Asking A) (Lacks : Call → State → Type 0) : Type 0 where
  pub call : Call
  pub system : State
  pub at : Is (Err (At call)) system
  pub cause : Lacks call system

-- unless one was not answered, or there was no memory
abbrev pub Comes : {A : Type 0} → (State → Type 0) → (Call → State → Type 0) → Asking A → Result A AskError → Type 0
Comes Stands Lacks Is (Ok x) = Leaves Is (Ok x) Stands
Comes Stands Lacks Is (Err (Refused e)) = Leaves Is (Err (Refuses e)) Stands
Comes Stands Lacks Is (Err Unanswered) = IsUnanswered Is Lacks
Comes Stands Lacks Is (Err NoMemory) = ⊤

-- ---- answers of one kind

-- or the refusal; no other answer is given to such a call
abbrev pub id_in : Option Answer → Result ℕ AskError
id_in (Some (answers.Id id)) = Ok id
id_in (Some (answers.Refused e)) = Err (Refused e)
id_in other = Err Unanswered

abbrev pub serial_in : Option Answer → Result ℕ AskError
serial_in (Some (answers.Sent serial)) = Ok serial
serial_in (Some (answers.Refused e)) = Err (Refused e)
serial_in other = Err Unanswered

abbrev pub message_in : Option Answer → Result Message AskError
message_in (Some (answers.Received message)) = Ok message
message_in (Some (answers.Refused e)) = Err (Refused e)
message_in other = Err Unanswered

abbrev pub info_in : Option Answer → Result QueueInfo AskError
info_in (Some (answers.Info info)) = Ok info
info_in (Some (answers.Refused e)) = Err (Refused e)
info_in other = Err Unanswered

-- a call that is done has no text
abbrev pub done_in : Option Answer → Result (List ℕ) AskError
done_in (Some answers.Done) = Ok []
done_in (Some (answers.Refused e)) = Err (Refused e)
done_in other = Err Unanswered
