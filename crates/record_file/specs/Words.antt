-- Words of the crates below, under one name.
pub use Rattle.bucket_page.specs.declared.record_key.RecordKey.{RecordKey}
pub use Rattle.bucket_page.specs.Records.{Pair, pair, lookup, record_bytes}
pub use Rattle.bucket_page.specs.Changes.{HasValueOf, value_of_key}
pub use Rattle.split_merge.specs.buffer_pool.Pool.{PoolState}
pub use Rattle.split_merge.specs.file_pages.Fault.{FileHasCause, IsDevicesFault}
pub use Rattle.page_locks.specs.declared.row.TheConstants.{MAX_LOCKS}
pub use Rattle.page_locks.specs.Locks.{kind_of, lock_of, without}
pub use Rattle.page_locks.specs.Table.{Table, IsSeat, row_of, held, with_row, without_lock}
unfoldable pub use Rattle.split_merge.specs.file_pages.Files.{store_of}
pub use Rattle.split_merge.specs.file_pages.Files.{IsFilePool, IsReady}
pub use Rattle.split_merge.specs.file_pages.Reads.{OnlyReads}
pub use Rattle.split_merge.specs.file_pages.Writes.{OnlyWrites}
pub use Rattle.hash_file.specs.Chain.{contents}
pub use Rattle.hash_file.specs.Changes.{RecordWrite, Put, Replace, Remove}
pub use Rattle.step_rules.specs.Words.{Lock, LockKind, Read, Selective, Exclusive, LockName, Directory, Page, Store, records_at, Change, Answers}
pub use Rattle.step_rules.specs.declared.progress.Progress.{Progress}
pub use Rattle.step_rules.specs.declared.progress.Progress.TheVariants.{Moved, Blocked, Fault, Ended}
pub use Rattle.step_rules.specs.declared.kind.Kind.TheVariants.{Look, Release, WriteRecord}
pub use Rattle.step_rules.specs.World.{World, IsHeld, guard_of}
pub use Rattle.step_rules.specs.Sound.{IsSoundWorld}
pub use Rattle.step_rules.specs.Known.{Known, LeadsTo, OnPage, IsKnown, AllKnown}
pub use Rattle.step_rules.specs.Pages.{Covering, Having, Lacking}
pub use Rattle.step_rules.specs.Turns.{Ask, Turn, is_fault}
pub use Rattle.step_rules.specs.Answering.{IsAnswerOf}
pub use Rattle.split_merge.specs.stale_search.Rows.{EndsRow, HasNoFileLock, in_directory, on_page}
pub use Rattle.split_merge.specs.stale_search.Steps.{world, Nears, ReadsPages, Sees, Stays, Step, StepHasCause, WritesOrSpares}
pub use Rattle.split_merge.specs.stale_search.Searches.{SearchView, search_locks, search_facts, search_turn, found_at, steps_left}
