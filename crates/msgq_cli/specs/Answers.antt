-- Answers as lines of text. docs/SCRIPTS.md, "Answers".
use Rattle.std.specs.Prelude.{ℕ, ◌/◌, ◌%◌, ◌==◌, List, [], ◌∷◌, ◌++◌, length, codes, Option, Some, None, if◌then◌else◌}
use Rattle.std.specs.Fmt.{decimal, signed_decimal}
use Rattle.hex.specs.Hex.{encode_lower}
use Rattle.queue_model.specs.Errnos.{name_of}
use Rattle.queue_model.specs.declared.answer.Answer.{Answer}
use Rattle.queue_model.specs.declared.answer.Answer.TheVariants.{Id, Sent, Received, Info, Done, Refused}
use Rattle.queue_model.specs.declared.answer.QueueInfo.{QueueInfo}
use Rattle.queue_model.specs.declared.message.Message.{Message}
use Rattle.queue_model.specs.declared.permissions.Permissions.{Permissions}
use Rattle.msgq_cli.specs.declared.reply.Reply.{Reply}
use Rattle.msgq_cli.specs.declared.reply.Reply.TheVariants.{Answered, Stopped, Failed}

-- words with a space (32) between each two, and an LF (10) behind them
abbrev pub line_of : List (List ℕ) → List ℕ
line_of [] = 10 ∷ []
line_of (word ∷ []) = word ++ 10 ∷ []
line_of (word ∷ next ∷ words) = word ++ 32 ∷ line_of (next ∷ words)

-- a body in lower case digits, or `-` where it is empty
abbrev pub body_text : List ℕ → List ℕ
body_text body = if length body == 0 then codes "-" else encode_lower body

-- a key, or `private` where there is none
abbrev pub key_text : Option ℕ → List ℕ
key_text None = codes "private"
key_text (Some key) = decimal key

-- a name with the id and the key of a queue, as Prometheus labels a value
abbrev pub labelled_text : List ℕ → ℕ → Option ℕ → List ℕ
labelled_text name id key =
    name ++ codes "{id=\"" ++ decimal id ++ codes "\",queue=\"" ++ key_text key ++ codes "\"}"

-- nine bits as three octal digits
abbrev pub mode_text : ℕ → List ℕ
mode_text mode = decimal (mode / 64 % 8) ++ decimal (mode / 8 % 8) ++ decimal (mode % 8)

-- owner, creator and mode
abbrev pub permission_words : Permissions → List (List ℕ)
permission_words p = decimal p.uid ∷ decimal p.gid ∷ decimal p.cuid ∷ decimal p.cgid ∷ mode_text p.mode ∷ []

-- what Stat tells of a queue
abbrev pub info_words : QueueInfo → List (List ℕ)
info_words i = codes "info" ∷ decimal i.id ∷ key_text i.key ∷ decimal i.qnum ∷ decimal i.cbytes ∷ decimal i.qbytes
    ∷ decimal i.lspid ∷ decimal i.lrpid ∷ decimal i.stime ∷ decimal i.rtime ∷ decimal i.ctime
    ∷ permission_words i.permissions

-- a message that was received
abbrev pub message_words : Message → List (List ℕ)
message_words m =
    codes "received" ∷ decimal m.serial ∷ decimal m.sender ∷ signed_decimal m.mtype ∷ body_text m.bytes ∷ []

-- what is said of an answer
abbrev pub answer_words : Answer → List (List ℕ)
answer_words (Id id) = codes "id" ∷ decimal id ∷ []
answer_words (Sent serial) = codes "sent" ∷ decimal serial ∷ []
answer_words (Received message) = message_words message
answer_words (Info info) = info_words info
answer_words Done = codes "done" ∷ []
answer_words (Refused errno) = codes "refused" ∷ name_of errno ∷ []

-- what is said of a reply; a `stop` is done
abbrev pub reply_words : Reply → List (List ℕ)
reply_words (Answered answer) = answer_words answer
reply_words Stopped = codes "done" ∷ []
reply_words (Failed fault) = codes "fault" ∷ decimal fault ∷ []

-- what is printed for the line of this number
abbrev pub reply_text : ℕ → Reply → List ℕ
reply_text number reply = line_of (decimal number ∷ reply_words reply)

-- what is printed of a queue that no line asked about
abbrev pub info_text : QueueInfo → List ℕ
info_text info = line_of (info_words info)

-- what is printed for a fault that no line met
abbrev pub fault_text : ℕ → List ℕ
fault_text fault = line_of (codes "fault" ∷ decimal fault ∷ [])

-- what is printed for a file of so many pages that was made
abbrev pub made_text : ℕ → List ℕ
made_text pages = line_of (codes "made" ∷ decimal pages ∷ [])
