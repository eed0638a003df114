-- The words of the crates below that statements of this crate use.
pub use Rattle.bucket_page.specs.declared.record_key.RecordKey.{RecordKey}
pub use Rattle.bucket_page.specs.Bucket.{Bucket}
pub use Rattle.directory.specs.declared.layout.Layout.{Layout}
pub use Rattle.directory.specs.Layouts.{IsLayout}
pub use Rattle.bucket_page.specs.Records.{Pair, lookup}
pub use Rattle.bucket_page.specs.Reading.{reading}
pub use Rattle.file_walk.specs.Files.{file_in, payload_on}
pub use Rattle.file_walk.specs.Structure.{IsStructureIn}
pub use Rattle.hash_file.specs.Store.{Store, bucket_at, entry_at, records_at}
pub use Rattle.hash_file.specs.Chain.{IsPlaced, contents}
pub use Rattle.queue_records.specs.declared.record.Record.{Record}
pub use Rattle.queue_records.specs.declared.counter.Counter.{Counter}
pub use Rattle.queue_records.specs.declared.queue_entry.QueueEntry.{QueueEntry}
pub use Rattle.queue_records.specs.declared.message_entry.MessageEntry.{MessageEntry}
pub use Rattle.queue_records.specs.Records.{SpellsRecord}
pub use Rattle.queue_records.specs.Spelling.{key_of}
pub use Rattle.record_walk.specs.declared.fault.WalkFault.{WalkFault}
pub use Rattle.record_walk.specs.declared.records.Linked.{Linked}
pub use Rattle.record_walk.specs.Fault.{IsCaused, IsOfMachine}
pub use Rattle.record_walk.specs.Held.{Holds, IsStill, linked_of}
