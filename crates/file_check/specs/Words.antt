-- The words of the crates below that statements of this crate use.
pub use Rattle.bucket_page.specs.declared.record_key.RecordKey.{RecordKey}
pub use Rattle.bucket_page.specs.Bucket.{Bucket}
pub use Rattle.bucket_page.specs.Records.{Pair, pair}
pub use Rattle.directory.specs.declared.layout.Layout.{Layout}
pub use Rattle.directory.specs.declared.layout.TheConstants.{LAYOUT, OLDER_LAYOUT}
pub use Rattle.directory.specs.Layouts.{IsLayout}
pub use Rattle.file_walk.specs.declared.fault.StructureFault.{StructureFault}
pub use Rattle.record_walk.specs.Versions.{SpellsIn, held_in}
pub use Rattle.file_walk.specs.Files.{file_in, file_of, page_on, payload_on, said_on}
pub use Rattle.file_walk.specs.Structure.{IsRightStructure, IsRightStructureIn, IsStructureIn}
pub use Rattle.hash_file.specs.Store.{Store, has_bucket, bucket_at, bucket_of, is_bucket, range_of, records_at}
pub use Rattle.hash_file.specs.Chain.{IsPlaced, chain, contents, pairs_on}
pub use Rattle.directory.specs.Ranges.{Covers}
pub use Rattle.queue_model.specs.State.{State}
pub use Rattle.queue_records.specs.declared.record.Record.{Record}
pub use Rattle.queue_records.specs.Records.{SpellsRecord}
pub use Rattle.file_check.specs.declared.fault.CheckFault.{CheckFault}
