-- The words of the crates below that statements of this crate use.
pub use Rattle.queue_records.specs.bucket_page.declared.record_key.RecordKey.{RecordKey}
pub use Rattle.queue_model.specs.declared.message.Message.{Message}
pub use Rattle.queue_model.specs.declared.queue.Queue.{Queue}
pub use Rattle.queue_model.specs.Lawful.{IsLawful, IsLawfulQueue}
pub use Rattle.queue_model.specs.State.{State}
pub use Rattle.queue_records.specs.declared.record.Record.{Record}
pub use Rattle.queue_records.specs.declared.counter.Counter.{Counter}
pub use Rattle.queue_records.specs.declared.queue_entry.QueueEntry.{QueueEntry}
pub use Rattle.queue_records.specs.declared.message_entry.MessageEntry.{MessageEntry}
pub use Rattle.queue_records.specs.declared.type_entry.TypeEntry.{TypeEntry}
pub use Rattle.queue_records.specs.declared.key_entry.KeyEntry.{KeyEntry}
pub use Rattle.queue_records.specs.Keys.{key_of_queue}
pub use Rattle.queue_records.specs.Records.{SpellsRecord}
pub use Rattle.queue_records.specs.Spelling.{key_of}
pub use Rattle.type_chains.specs.Entries.{counter_of, key_entry, queue_entry, type_entry, message_entry, is_number, is_same_type}
pub use Rattle.type_chains.specs.Image.{image, queue_records, key_records, type_records, message_records}
pub use Rattle.type_chains.specs.Lists.{serials, serials_of_type, types, with_type}
pub use Rattle.type_chains.specs.Neighbours.{first_of, last_of, before, behind}
pub use Rattle.record_walk.specs.declared.fault.WalkFault.{WalkFault}
pub use Rattle.record_walk.specs.declared.records.Linked.{Linked}
pub use Rattle.record_walk.specs.declared.records.MessageLinks.{MessageLinks}
