-- Words of the crates below, under one name.
pub use Rattle.record_file.specs.Words.{RecordKey, pair, PoolState, Table, IsSeat, Lock, Selective, Read, Change, Store, Page, row_of, with_row, kind_of, guard_of, store_of, contents, IsReady, OnlyReads, OnlyWrites, WritesOrSpares, RecordWrite, Progress, Moved, Blocked, Fault, Ended, WriteRecord, World, Known, IsKnown, Turn, is_fault, EndsRow, HasNoFileLock, Nears, Sees, Stays, Step, StepHasCause, world, IsSoundWorld}
pub use Rattle.record_file.specs.Machines.{FindsAt}
pub use Rattle.record_file.specs.Writers.{LeavesSearch, Owns, TellsNone}
pub use Rattle.record_file.specs.BucketAccesses.{BucketView, IsFrontAt, SuitsKind, begun_access, bucket_facts, bucket_left, bucket_locks, bucket_turn, found_of, has_ended, with_front}
pub use Rattle.record_file.specs.BucketSteps.{KeepsBucket, MakesBucket, TurnsAwayIn}
pub use Rattle.record_file.specs.Deletes.{DeleteView, KeepsDelete, delete_facts, delete_left, delete_locks, delete_turn}
pub use Rattle.record_file.specs.declared.tried.Tried.{Tried}
pub use Rattle.record_file.specs.split_merge.Steps.{TurnsAwayAt}
pub use Rattle.record_file.specs.stale_search.Steps.{FollowsRow}
pub use Rattle.record_file.specs.Inserts.{InsertView, IsLent, insert_facts, insert_left, insert_locks, insert_turn, said_of, SECOND_STEPS}
pub use Rattle.record_file.specs.InsertSteps.{KeepsInsert, MakesInsert}
pub use Rattle.record_file.specs.SecondSteps.{NearsOrSpares, SaysAt}
pub use Rattle.record_file.specs.declared.operation.RecordOperation.{RecordOperation}
pub use Rattle.record_file.specs.declared.operation.RecordOperation.TheVariants.{Find, Insert, Replace, Delete}
