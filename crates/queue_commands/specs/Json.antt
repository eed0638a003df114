-- What is shown of a system as JSON: objects whose members have POSIX's names. docs/SHELL.md, "JSON".
use Rattle.std.specs.Prelude.{◌≡◌, ◌≤◌, ℕ, false, List, [], ◌∷◌, ◌++◌, length, map, codes, Option, None, Some}
use Rattle.std.specs.Str.Lossy.{utf8_lossy}
use Rattle.hex.specs.Hex.{encode_lower}
use Rattle.queue_model.specs.Rules.{info_of}
use Rattle.queue_model.specs.State.{State}
use Rattle.queue_model.specs.declared.answer.QueueInfo.{QueueInfo}
use Rattle.queue_model.specs.declared.message.Message.{Message}
use Rattle.queue_model.specs.declared.permissions.Permissions.{Permissions}
use Rattle.queue_model.specs.declared.queue.Queue.{Queue}
use Rattle.queue_commands.specs.Cells.{mode_text}
use Rattle.serde_json.specs.Data.{Data, Members, depth, null, number, string, array, object, unsigned, no_members, member}
use Rattle.serde_json.specs.Find.{of_integer}
use Rattle.serde_json.specs.Read.{max_depth, read}
use Rattle.serde_json.specs.View.{items_of}
use Rattle.serde_json.specs.Written.{compact_text, has_float}

-- its text with no space is put, and a line end (10); that text reads as this
pub record PutsJson (d : Data) (old new : List ℕ) : Type 0 where
  pub put : new ≡ old ++ compact_text d ++ 10 ∷ []
  pub reads : read (compact_text d) ≡ Some d

-- it has no float, and nests no deeper than is read
pub record IsPlain (d : Data) : Type 0 where
  pub whole : has_float d ≡ false
  pub flat : depth d ≤ max_depth

-- the members of an object, in the order of their names
abbrev pub named : List (List ℕ × Data) → Members
named [] = no_members
named ((name, d) ∷ more) = member name d (named more)

abbrev pub count : ℕ → Data
count n = number (unsigned n)

-- a private queue has no key
abbrev pub key_data : Option ℕ → Data
key_data None = null
key_data (Some key) = count key

-- the mode as a number, and as three octal digits
abbrev pub permissions_data : Permissions → Data
permissions_data p = object (named ((codes "cgid", count p.cgid) ∷ (codes "cuid", count p.cuid)
    ∷ (codes "gid", count p.gid) ∷ (codes "mode", count p.mode) ∷ (codes "mode_octal", string (mode_text p.mode))
    ∷ (codes "uid", count p.uid) ∷ []))

-- what Stat tells of a queue
abbrev pub info_data : QueueInfo → Data
info_data i = object (named ((codes "id", count i.id) ∷ (codes "key", key_data i.key)
    ∷ (codes "msg_cbytes", count i.cbytes) ∷ (codes "msg_ctime", count i.ctime)
    ∷ (codes "msg_lrpid", count i.lrpid) ∷ (codes "msg_lspid", count i.lspid)
    ∷ (codes "msg_perm", permissions_data i.permissions) ∷ (codes "msg_qbytes", count i.qbytes)
    ∷ (codes "msg_qnum", count i.qnum) ∷ (codes "msg_rtime", count i.rtime)
    ∷ (codes "msg_stime", count i.stime) ∷ []))

abbrev pub queue_data : Queue → Data
queue_data q = info_data (info_of q)

-- its bytes twice: as a text, in which what is no UTF-8 is replaced, and all of them in hexadecimal digits
abbrev pub message_data : Message → Data
message_data m = object (named ((codes "length", count (length m.bytes)) ∷ (codes "mtext", string (utf8_lossy m.bytes))
    ∷ (codes "mtext_hex", string (encode_lower m.bytes)) ∷ (codes "mtype", number (of_integer m.mtype))
    ∷ (codes "sender", count m.sender) ∷ (codes "serial", count m.serial) ∷ []))

-- the object of these queues
abbrev pub queues_of : List Data → Data
queues_of queues = object (named ((codes "queues", array (items_of queues)) ∷ []))

-- the queues of a system, in order of id
abbrev pub queues_data : State → Data
queues_data s = queues_of (map queue_data s.queues)

-- the object of a queue and of these messages
abbrev pub messages_of : Data → List Data → Data
messages_of queue messages =
    object (named ((codes "messages", array (items_of messages)) ∷ (codes "queue", queue) ∷ []))

-- a queue and its messages, in the order in which they were sent
abbrev pub messages_data : QueueInfo → List Message → Data
messages_data i ms = messages_of (info_data i) (map message_data ms)
