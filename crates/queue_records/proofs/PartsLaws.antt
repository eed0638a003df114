-- The fields of each value, one after the other.
use Rattle.std.proofs.Common.{◌≡◌, ℕ, List, [], ◌∷◌}
use Rattle.bucket_page.specs.numbers.Numbers.{two, four, eight}
use Rattle.queue_records.specs.declared.queue_entry.QueueEntry.{QueueEntry}
use Rattle.queue_records.specs.declared.type_entry.TypeEntry.{TypeEntry}
use Rattle.queue_records.specs.declared.message_entry.MessageEntry.{MessageEntry}
use Rattle.queue_records.specs.Fields.{serial_number, type_number, type_link_number, key_flag, key_number}
use Rattle.queue_records.specs.Spelling.{queue_bytes, type_bytes, message_bytes}
use Rattle.queue_records.proofs.FieldLaws.{joined, regrouped}

-- those behind the flag
abbrev pub queue_parts : QueueEntry → List (List ℕ)
queue_parts q =
    four (key_number q.key) ∷ four q.qbytes ∷ four q.cbytes ∷ four q.qnum ∷ four q.lspid ∷ four q.lrpid
    ∷ eight q.stime ∷ eight q.rtime ∷ eight q.ctime
    ∷ eight q.next_serial ∷ eight (serial_number q.first) ∷ eight (serial_number q.last)
    ∷ eight (type_link_number q.lowest)
    ∷ four q.uid ∷ four q.gid ∷ four q.cuid ∷ four q.cgid ∷ two q.mode ∷ []

pub queue_joined : (q : QueueEntry) → queue_bytes q ≡ key_flag q.key ∷ joined (queue_parts q)
queue_joined q = regrouped (key_flag q.key ∷ []) (queue_parts q)

abbrev pub type_parts : TypeEntry → List (List ℕ)
type_parts t = eight t.first ∷ eight t.last ∷ eight (type_link_number t.lower) ∷ eight (type_link_number t.higher) ∷ []

pub type_joined : (t : TypeEntry) → type_bytes t ≡ joined (type_parts t)
type_joined t = regrouped [] (type_parts t)

abbrev pub message_parts : MessageEntry → List (List ℕ)
message_parts m =
    eight (type_number m.mtype) ∷ four m.sender
    ∷ eight (serial_number m.previous) ∷ eight (serial_number m.next) ∷ eight (serial_number m.next_of_type)
    ∷ m.body ∷ []

pub message_joined : (m : MessageEntry) → message_bytes m ≡ joined (message_parts m)
message_joined m = regrouped [] (message_parts m)
