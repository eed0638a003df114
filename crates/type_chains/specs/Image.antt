-- The image of a system: the records that it needs, as one list.
-- docs/FORMAT.md, "Records".
use Rattle.std.specs.Prelude.{ℕ, ℤ, List, ◌∷◌, ◌++◌, map, option_to_list}
use Rattle.std.specs.List.{flat_map}
use Rattle.queue_model.specs.declared.message.Message.{Message}
use Rattle.queue_model.specs.declared.queue.Queue.{Queue}
use Rattle.queue_model.specs.State.{State}
use Rattle.queue_records.specs.declared.record.Record.{Record}
use Rattle.queue_records.specs.declared.record.Record.TheVariants as records
use Rattle.type_chains.specs.Entries.{counter_of, key_entry, queue_entry, type_entry, message_entry}
use Rattle.type_chains.specs.Lists.{types}

-- a Key where the queue has a key
abbrev pub key_records : Queue → List Record
key_records q = map (λ (k : ℕ). records.Key (key_entry k q)) (option_to_list q.key)

-- a Type for each type that it holds
abbrev pub type_records : Queue → List Record
type_records q = map (λ (t : ℤ). records.Type (type_entry q t)) (types q.messages)

-- a Message for each message
abbrev pub message_records : Queue → List Record
message_records q = map (λ (m : Message). records.Message (message_entry q m)) q.messages

-- all of a queue, with its Queue
abbrev pub queue_records : Queue → List Record
queue_records q = key_records q ++ (records.Queue (queue_entry q) ∷ (type_records q ++ message_records q))

-- one Counter, and the records of each queue
abbrev pub image : State → List Record
image s = records.Counter (counter_of s) ∷ flat_map queue_records s.queues
