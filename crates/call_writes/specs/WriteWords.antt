-- Words of the crates below, under one name.
pub use Rattle.bucket_page.specs.declared.record_key.RecordKey.{RecordKey}
pub use Rattle.bucket_page.specs.Keys.{is_same}
pub use Rattle.queue_records.specs.declared.record.Record.{Record}
pub use Rattle.queue_records.specs.Keys.{guard_of}
pub use Rattle.queue_records.specs.Range.{IsInRange}
pub use Rattle.queue_records.specs.Spelling.{key_of, value_of}
pub use Rattle.xsi_inquiry.specs.declared.write.Write.{Write}
pub use Rattle.xsi_inquiry.specs.declared.write.Write.TheVariants.{Replace, Relink, Delete}
pub use Rattle.xsi_inquiry.specs.Slots.{writes_left}
pub use Rattle.xsi_inquiry.specs.Writing.{AreAbsent, CanAllBe, CanBe, HasRange, IsSmall, Plan, Records, with_at, writes_of, written_by, key_written}
pub use Rattle.call_decisions.specs.Owing.{Owes, Writes, overlaid, undoing}
pub use Rattle.record_file.specs.AccessWords.{PoolState, Table, Lock, Change, Store, Known, Turn, row_of, store_of, pair, IsReady, IsSeat, EndsRow, OnlyWrites, FollowsRow, NearsOrSpares, Progress, Moved, Ended, Fault, WriteRecord, is_fault, HasNoFileLock, HasNoRoom, Sees, Step, StepHasCause, HasEnded, IsKeyed, Owns, World, kind_of, world, MOST_STEPS}
pub use Rattle.record_file.specs.Purposes.{Purpose, ToInsert, ToWrite, StandsAt, aimed_at, made, is_write}
pub use Rattle.record_file.specs.Accesses.{AccessView, Allows, Serves, access_facts, access_key, access_left, access_locks, access_turn, begun, has_no_room, searches_under}
pub use Rattle.record_file.specs.AccessSteps.{MakesAccess}
pub use Rattle.call_writes.specs.declared.deed.Deed.{Deed}
pub use Rattle.call_writes.specs.declared.due.Due.{Due}
pub use Rattle.call_writes.specs.declared.due.Due.TheVariants.{Trying, Full, Undoing, Writing}
