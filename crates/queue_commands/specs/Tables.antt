-- The tables of a system. docs/SHELL.md, "Tables".
use Rattle.std.specs.Prelude.{ℕ, List, [], ◌∷◌, ◌++◌, length, codes}
use Rattle.std.specs.Fmt.{decimal, signed_decimal}
use Rattle.std.specs.List.{sum_by}
use Rattle.queue_model.specs.Rules.{info_of, messages_of}
use Rattle.queue_model.specs.Selection.{total_bytes}
use Rattle.queue_model.specs.State.{State}
use Rattle.queue_model.specs.declared.answer.QueueInfo.{QueueInfo}
use Rattle.queue_model.specs.declared.message.Message.{Message}
use Rattle.queue_model.specs.declared.queue.Queue.{Queue}
use Rattle.queue_commands.specs.Cells.{key_text, mode_text, preview, row_text}

-- ---- queues

abbrev pub queue_heads : List (List ℕ)
queue_heads = codes "KEY" ∷ codes "ID" ∷ codes "MESSAGES" ∷ codes "BYTES" ∷ codes "LIMIT" ∷ codes "MODE"
    ∷ codes "OWNER" ∷ codes "LSPID" ∷ codes "LRPID" ∷ codes "SENT" ∷ codes "RECEIVED" ∷ codes "CHANGED" ∷ []

-- what Stat tells of a queue, but its group and its creator
abbrev pub queue_cells : QueueInfo → List (List ℕ)
queue_cells i = key_text i.key ∷ decimal i.id ∷ decimal i.qnum ∷ decimal i.cbytes ∷ decimal i.qbytes
    ∷ mode_text i.permissions.mode ∷ decimal i.permissions.uid ∷ decimal i.lspid ∷ decimal i.lrpid
    ∷ decimal i.stime ∷ decimal i.rtime ∷ decimal i.ctime ∷ []

-- a row for each queue
abbrev pub queue_rows : List Queue → List ℕ
queue_rows [] = []
queue_rows (queue ∷ queues) = row_text (queue_cells (info_of queue)) ++ queue_rows queues

abbrev pub bytes_of : Queue → ℕ
bytes_of q = total_bytes q.messages

-- how many queues there are, and how many messages and bytes are on them
abbrev pub queues_total : State → List (List ℕ)
queues_total s = codes "total" ∷ decimal (length s.queues) ∷ decimal (sum_by messages_of s.queues)
    ∷ decimal (sum_by bytes_of s.queues) ∷ []

-- in order of id, between the headings and the totals
abbrev pub queues_text : State → List ℕ
queues_text s = row_text queue_heads ++ queue_rows s.queues ++ row_text (queues_total s)

-- ---- messages

abbrev pub message_heads : List (List ℕ)
message_heads = codes "SERIAL" ∷ codes "TYPE" ∷ codes "SENDER" ∷ codes "LENGTH" ∷ codes "BODY" ∷ []

abbrev pub message_cells : Message → List (List ℕ)
message_cells m =
    decimal m.serial ∷ signed_decimal m.mtype ∷ decimal m.sender ∷ decimal (length m.bytes) ∷ preview m.bytes ∷ []

-- a row for each message
abbrev pub message_rows : List Message → List ℕ
message_rows [] = []
message_rows (m ∷ ms) = row_text (message_cells m) ++ message_rows ms

-- how many bytes they have, and how many there are
abbrev pub messages_total : List Message → List (List ℕ)
messages_total ms =
    codes "total" ∷ [] ∷ [] ∷ decimal (total_bytes ms) ∷ (codes "messages: " ++ decimal (length ms)) ∷ []

-- in the order in which they were sent, between the headings and the totals
abbrev pub messages_text : List Message → List ℕ
messages_text ms = row_text message_heads ++ message_rows ms ++ row_text (messages_total ms)
