-- The numbers that C is told. docs/QUEUES.md, "Calls"; docs/FAULTS.md.
use Rattle.std.specs.Prelude.{ℕ, Result, Ok, Err}
use Rattle.queue_model.specs.Errnos.{number_of}
use Rattle.queue_model.specs.declared.answer.Answer.{Answer}
use Rattle.queue_model.specs.declared.answer.Answer.TheVariants.{Id, Sent, Received, Info, Done, Refused}
use Rattle.session.specs.declared.unanswered.Unanswered.{Unanswered}
use Rattle.session.specs.declared.unanswered.Unanswered.TheVariants as unanswered
use Rattle.msgq_c.specs.declared.codes.TheConstants.{DONE, FAILED, NO_MEMORY, NO_ROOM, WAITS}

abbrev pub answer_code : Answer → ℕ
answer_code (Id id) = DONE
answer_code (Sent serial) = DONE
answer_code (Received message) = DONE
answer_code (Info info) = DONE
answer_code Done = DONE
answer_code (Refused errno) = number_of errno

abbrev pub unanswered_code : Unanswered → ℕ
unanswered_code unanswered.Waits = WAITS
unanswered_code unanswered.NoRoom = NO_ROOM
unanswered_code unanswered.NoMemory = NO_MEMORY
unanswered_code unanswered.Failed = FAILED

abbrev pub code_of : Result Answer Unanswered → ℕ
code_of (Ok answer) = answer_code answer
code_of (Err why) = unanswered_code why
