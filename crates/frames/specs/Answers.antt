-- What the core answers, as bytes (docs/PROTOCOL.md, "Answers").
use Rattle.std.specs.Prelude.{ℕ, ◌+◌, Bool, true, nat_le, List, [], ◌∷◌, ◌++◌, length, is_some}
use Rattle.numbers.specs.declared.limits.TheConstants.{MAX_BODY}
use Rattle.queue_model.specs.declared.answer.Answer.{Answer}
use Rattle.queue_model.specs.declared.answer.Answer.TheVariants as answers
use Rattle.queue_model.specs.declared.answer.QueueInfo.{QueueInfo}
use Rattle.queue_model.specs.declared.message.Message.{Message}
use Rattle.queue_model.specs.Errnos.{number_of}
use Rattle.frames.specs.declared.reply.Counts.{Counts}
use Rattle.frames.specs.declared.reply.Reply.{Reply}
use Rattle.frames.specs.declared.reply.Reply.TheVariants as replies
use Rattle.frames.specs.Little.{two, four, eight}
use Rattle.frames.specs.Frames.{counted, joined}
use Rattle.frames.specs.Requests.{flag, or_zero, type_number}

-- ---- fields

abbrev pub message_parts : Message → List (List ℕ)
message_parts m =
    eight m.serial ∷ four m.sender ∷ four 0 ∷ eight (type_number m.mtype) ∷ m.bytes ∷ []

abbrev pub stat_parts : QueueInfo → List (List ℕ)
stat_parts q =
    eight q.stime ∷ eight q.rtime ∷ eight q.ctime
    ∷ four q.id ∷ four (or_zero q.key) ∷ four q.qnum ∷ four q.cbytes ∷ four q.qbytes
    ∷ four q.lspid ∷ four q.lrpid
    ∷ four q.permissions.uid ∷ four q.permissions.gid
    ∷ four q.permissions.cuid ∷ four q.permissions.cgid
    ∷ two q.permissions.mode ∷ two (flag (is_some q.key) 1) ∷ []

abbrev pub counts_parts : Counts → List (List ℕ)
counts_parts c =
    eight c.calls ∷ eight c.saves ∷ eight c.tries
    ∷ four c.queues ∷ four c.waiting ∷ four c.pages ∷ four c.highest ∷ []

-- ---- from the code on: the code, the value, and the fields

abbrev pub answer_parts : Answer → List (List ℕ)
answer_parts (answers.Id id) = four 0 ∷ four id ∷ []
answer_parts (answers.Sent serial) = four 0 ∷ four 0 ∷ eight serial ∷ []
answer_parts (answers.Received m) = four 0 ∷ four (length m.bytes) ∷ message_parts m
answer_parts (answers.Info q) = four 0 ∷ four 0 ∷ stat_parts q
answer_parts answers.Done = four 0 ∷ four 0 ∷ []
answer_parts (answers.Refused errno) = four (number_of errno) ∷ four 0 ∷ []

abbrev pub reply_parts : Reply → List (List ℕ)
reply_parts (replies.Answer answer) = answer_parts answer.now
reply_parts (replies.Held id message) = four 0 ∷ four id ∷ message_parts message.now
reply_parts (replies.Number code value) = four code ∷ four value ∷ []
reply_parts (replies.Info counts) = four 0 ∷ four 0 ∷ counts_parts counts.now

-- the record of a reply to a request
abbrev pub told : ℕ → ℕ → Reply → List ℕ
told connection number reply =
    counted (joined (four connection ∷ four number ∷ reply_parts reply))

-- ---- records that are put behind others

-- parts behind bytes
abbrev pub appended : List ℕ → List (List ℕ) → List ℕ
appended front [] = front
appended front (part ∷ parts) = appended (front ++ part) parts

-- how many bytes an answer has from its code on
abbrev pub answer_len : Answer → ℕ
answer_len (answers.Id id) = 8
answer_len (answers.Sent serial) = 16
answer_len (answers.Received m) = 32 + length m.bytes
answer_len (answers.Info q) = 80
answer_len answers.Done = 8
answer_len (answers.Refused errno) = 8

abbrev pub reply_len : Reply → ℕ
reply_len (replies.Answer answer) = answer_len answer.now
reply_len (replies.Held id message) = 32 + length message.now.bytes
reply_len (replies.Number code value) = 8
reply_len (replies.Info counts) = 48

-- its body is as long as that of a message may be
abbrev pub is_short : Message → Bool
is_short m = nat_le (length m.bytes) MAX_BODY

abbrev pub is_short_answer : Answer → Bool
is_short_answer (answers.Id id) = true
is_short_answer (answers.Sent serial) = true
is_short_answer (answers.Received m) = is_short m
is_short_answer (answers.Info q) = true
is_short_answer answers.Done = true
is_short_answer (answers.Refused errno) = true

abbrev pub is_short_reply : Reply → Bool
is_short_reply (replies.Answer answer) = is_short_answer answer.now
is_short_reply (replies.Held id message) = is_short message.now
is_short_reply (replies.Number code value) = true
is_short_reply (replies.Info counts) = true
