-- Words of the crates below, under one name.
pub use Rattle.bucket_page.specs.declared.layout.TheConstants.{RECORD_HEAD_BYTES, ROOM_BYTES}
pub use Rattle.directory.specs.declared.layout.TheConstants.{GREATEST_DEPTH}
pub use Rattle.record_file.specs.Words.{RecordKey, Pair, pair, lookup, record_bytes, Put, PoolState, FileHasCause, IsDevicesFault, Table, IsSeat, Lock, LockKind, Selective, Exclusive, LockName, Directory, Page, Change, Store, Answers, kind_of, lock_of, row_of, held, with_row, without, without_lock, store_of, records_at, IsFilePool, IsReady, OnlyReads, OnlyWrites, Progress, Moved, Blocked, Fault, Ended, World, IsHeld, guard_of, IsSoundWorld, Known, LeadsTo, OnPage, IsKnown, AllKnown, Covering, Lacking, Turn, is_fault, EndsRow, HasNoFileLock, in_directory, on_page, world, Sees, Step}
pub use Rattle.record_file.specs.Machines.{Tells}
pub use Rattle.record_file.specs.Writers.{Owns}
pub use Rattle.hash_file.specs.Store.{range_at, next_at}
pub use Rattle.hash_file.specs.Change.{Quiet}
pub use Rattle.step_rules.specs.Known.{Live, Built}
pub use Rattle.step_rules.specs.Pages.{Using}
pub use Rattle.step_rules.specs.Structure.{InPhase, HasDepth, BucketOf, Near, Shaped}
pub use Rattle.step_rules.specs.Rooms.{HasNoRoom}
pub use Rattle.step_rules.specs.Turns.{Ask, ForLock, HopFrom}
pub use Rattle.split_merge.specs.stale_search.Approaches.{ApproachView, approach_locks, approach_facts, approach_ask_at, approach_left, reached_at}
pub use Rattle.split_merge.specs.stale_search.Searches.{answers_at}
pub use Rattle.split_merge.specs.stale_search.Steps.{FollowsRow, ReadsPages, Stays, StepHasCause, WritesOrSpares, WritesPages}
pub use Rattle.split_merge.specs.Splits.{SplitView, split_locks, split_facts, has_ended, IsSparingFault}
pub use Rattle.split_merge.specs.Splits.{steps_left as split_left}
pub use Rattle.split_merge.specs.declared.wanted.Wanted.{Wanted}
pub use Rattle.record_file.specs.declared.tried.Tried.{Tried}
pub use Rattle.record_file.specs.declared.tried.Tried.TheVariants.{IsPut, IsThere, IsFull}
pub use Rattle.record_file.specs.declared.second_place.SecondPlace.{SecondPlace}
pub use Rattle.record_file.specs.declared.second_place.SecondPlace.TheVariants.{Approaching, Look, Hop, Write, Splitting, GiveBackPage, GiveBackDirectory}
pub use Rattle.record_file.specs.declared.second_place.SecondPlace.TheVariants.{Ended as HasEnded}
