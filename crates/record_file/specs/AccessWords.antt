-- Words of the crates below, under one name.
pub use Rattle.record_file.specs.OperationWords.{RecordKey, pair, PoolState, Table, Lock, Change, Store, row_of, store_of, contents, with_front, IsReady, OnlyWrites, Progress, Moved, Blocked, Fault, Ended, WriteRecord, World, Known, Turn, is_fault, EndsRow, HasNoFileLock, Sees, Step, StepHasCause, IsSeat, IsSoundWorld, world, found_of, Tried, FollowsRow, LeavesSearch, NearsOrSpares, TellsNone, kind_of}
pub use Rattle.record_file.specs.declared.operation.RecordOperation.{RecordOperation}
pub use Rattle.record_file.specs.Operations.{HasEnded, IsKeyed, MayBeLent, OwnsWritten, has_searched, begun_delete, begun_find, begun_insert, begun_replace, operation_facts, operation_found, operation_key, operation_left, operation_locks, operation_pseudokey, operation_searches, operation_tried, operation_turn}
pub use Rattle.record_file.specs.Lengths.{MOST_STEPS}
pub use Rattle.record_file.specs.InsertWords.{HasNoRoom}
pub use Rattle.record_file.specs.declared.tried.Tried.TheVariants.{IsPut, IsThere, IsFull}
pub use Rattle.record_file.specs.Words.{Look}
pub use Rattle.record_file.specs.Writers.{Owns}
pub use Rattle.hash_file.specs.Changes.{RecordWrite, Remove}
pub use Rattle.queue_records.specs.declared.links.Links.{Links}
pub use Rattle.queue_records.specs.declared.record.Record.{Record}
pub use Rattle.queue_records.specs.Records.{FitsEight, SpellsRecord}
pub use Rattle.queue_records.specs.Relinking.{AreLinksInRange, HasSuch, linked_bytes, relinked}
pub use Rattle.queue_records.specs.Spelling.{key_of, value_of}
pub use Rattle.xsi_inquiry.specs.declared.write.Write.{Write}
pub use Rattle.xsi_inquiry.specs.declared.write.Write.TheVariants.{Replace, Relink, Delete}
pub use Rattle.xsi_inquiry.specs.Writing.{CanBe, key_written, turned}
