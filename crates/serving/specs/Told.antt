-- What clients are told, in bytes. docs/PROTOCOL.md, "Answers".
use Rattle.std.specs.Prelude.{ℕ, Bool, true, false, List, [], ◌∷◌, Some, None, Result, Ok, Err, if◌then◌else◌}
use Rattle.queue_model.specs.declared.answer.Answer.{Answer}
use Rattle.queue_model.specs.declared.answer.Answer.TheVariants as answers
use Rattle.queue_model.specs.declared.errno.Errno.{Errno}
use Rattle.queue_model.specs.declared.errno.Errno.TheVariants as errnos
use Rattle.session.specs.declared.unanswered.Unanswered.{Unanswered}
use Rattle.session.specs.declared.unanswered.Unanswered.TheVariants.{Waits, NoRoom, NoMemory, Failed}
use Rattle.desk.specs.History.{Asked, Event, Next, Saved, Stopped, Withdrawn}
use Rattle.frames.specs.Answers.{answer_parts, counts_parts, message_parts}
use Rattle.frames.specs.Frames.{counted, joined}
use Rattle.frames.specs.Little.{four}
use Rattle.frames.specs.declared.codes.TheConstants.{ENDS, NO_MEMORY, NO_ROOM}
use Rattle.serving.specs.Clients.{connection_of, is_own, number_of}
use Rattle.serving.specs.declared.note.Note.{Note}
use Rattle.serving.specs.declared.note.Note.TheVariants.{Code, Held, Counts}

-- the record by which a client gets these parts, from the code on
abbrev pub record_to : (client : ℕ) → List (List ℕ) → List ℕ
record_to client parts = counted (joined (four (connection_of client) ∷ four (number_of client) ∷ parts))

abbrev pub code_parts : (code value : ℕ) → List (List ℕ)
code_parts code value = four code ∷ four value ∷ []

-- what the server says of its own
abbrev pub note_parts : Note → List (List ℕ)
note_parts (Code code value) = code_parts code value
note_parts (Held queue message) = four 0 ∷ four queue ∷ message_parts message
note_parts (Counts counts) = four 0 ∷ four 0 ∷ counts_parts counts

abbrev pub is_eintr : Errno → Bool
is_eintr errnos.EINTR = true
is_eintr _ = false

abbrev pub is_interrupted : Answer → Bool
is_interrupted (answers.Id id) = false
is_interrupted (answers.Sent serial) = false
is_interrupted (answers.Received message) = false
is_interrupted (answers.Info info) = false
is_interrupted answers.Done = false
is_interrupted (answers.Refused errno) = is_eintr errno

-- an answer of the rules; one that is refused for the stop of the system may be asked again of the next server
abbrev pub answered : Answer → List (List ℕ)
answered answer = if is_interrupted answer then code_parts ENDS 0 else answer_parts answer

-- what a client is told of its call; nothing while it waits, and of a file that has failed nothing yet
abbrev pub told_of : (client : ℕ) → Result Answer Unanswered → List ℕ
told_of client (Ok answer) = record_to client (answered answer)
told_of client (Err Waits) = []
told_of client (Err NoRoom) = record_to client (code_parts NO_ROOM 0)
told_of client (Err NoMemory) = record_to client (code_parts NO_MEMORY 0)
told_of client (Err Failed) = []

-- and who is no client is told nothing
abbrev pub told_to : (client : ℕ) → Result Answer Unanswered → List ℕ
told_to client reply = if is_own client then [] else told_of client reply

-- what is told behind something that is done with the desk
abbrev pub told_by : Event → List ℕ
told_by (Asked a reply) = told_to a.client reply
told_by (Next None noted) = []
told_by (Next (Some told) noted) = told_to told.client told.reply
told_by (Withdrawn test some) = []
told_by Stopped = []
told_by Saved = []
