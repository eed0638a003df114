-- The record that a system has at a key, by the key's kind. Parts of a key that its kind does not use are 0.
-- docs/FORMAT.md, "Records".
use Rattle.std.specs.Prelude.{ℕ, ◌==◌, ℤ, Bool, ◌&&◌, Option, Some, None, if◌then◌else◌, option_map, option_and_then}
use Rattle.std.specs.List.{find}
use Rattle.queue_records.specs.bucket_page.declared.record_key.RecordKey.{RecordKey}
use Rattle.queue_model.specs.declared.message.Message.{Message}
use Rattle.queue_model.specs.declared.queue.Queue.{Queue}
use Rattle.queue_model.specs.Rules.{has_id, has_key}
use Rattle.queue_model.specs.State.{State}
use Rattle.queue_records.specs.declared.layout.TheConstants.{COUNTER, KEY, QUEUE, TYPE, MESSAGE}
use Rattle.queue_records.specs.declared.record.Record.{Record}
use Rattle.queue_records.specs.declared.record.Record.TheVariants as records
use Rattle.queue_records.specs.Fields.{type_number}
use Rattle.type_chains.specs.Entries.{counter_of, key_entry, queue_entry, type_entry, message_entry}
use Rattle.type_chains.specs.Lists.{types}

abbrev pub has_serial : ℕ → Message → Bool
has_serial serial m = m.serial == serial

-- whether a type is the one of this number
abbrev pub has_number : ℕ → ℤ → Bool
has_number number mtype = type_number mtype == number

-- the Counter, at its one key
abbrev pub at_counter : State → RecordKey → Option Record
at_counter s key =
    if key.queue == 0 && key.number == 0 then Some (records.Counter (counter_of s)) else None

-- the Key of a queue's key
abbrev pub at_key : State → RecordKey → Option Record
at_key s key =
    if key.queue == 0
    then option_map (λ (q : Queue). records.Key (key_entry key.number q)) (find (has_key key.number) s.queues)
    else None

-- the Queue of an id
abbrev pub at_queue : State → RecordKey → Option Record
at_queue s key =
    if key.number == 0
    then option_map (λ (q : Queue). records.Queue (queue_entry q)) (find (has_id key.queue) s.queues)
    else None

-- the Type of a type that stands on a queue
abbrev pub type_record : ℕ → Queue → Option Record
type_record number q =
    option_map (λ (t : ℤ). records.Type (type_entry q t)) (find (has_number number) (types q.messages))

-- the Message of a serial that stands on a queue
abbrev pub message_record : ℕ → Queue → Option Record
message_record serial q =
    option_map (λ (m : Message). records.Message (message_entry q m)) (find (has_serial serial) q.messages)

-- a record of the queue of an id, where that is alive
abbrev pub at_queue_of : (ℕ → Queue → Option Record) → State → RecordKey → Option Record
at_queue_of part s key = option_and_then (part key.number) (find (has_id key.queue) s.queues)

-- the record at a key; none at the other keys
abbrev pub record_of : State → RecordKey → Option Record
record_of s key =
    if key.kind == COUNTER then at_counter s key
    else if key.kind == KEY then at_key s key
    else if key.kind == QUEUE then at_queue s key
    else if key.kind == TYPE then at_queue_of type_record s key
    else if key.kind == MESSAGE then at_queue_of message_record s key
    else None
