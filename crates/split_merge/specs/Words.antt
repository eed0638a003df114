-- Words of the crates below, under one name.
pub use Rattle.bucket_page.specs.declared.record_key.RecordKey.{RecordKey}
pub use Rattle.bucket_page.specs.declared.layout.TheConstants.{RECORD_HEAD_BYTES, ROOM_BYTES}
pub use Rattle.bucket_page.specs.Records.{Pair}
pub use Rattle.stale_search.specs.buffer_pool.Pool.{PoolState}
pub use Rattle.directory.specs.declared.layout.TheConstants.{DIRECTORY_PAGES, GREATEST_DEPTH, ROOT_PAGE}
pub use Rattle.directory.specs.Entries.{page_of}
pub use Rattle.directory.specs.declared.range.Range.{Range}
pub use Rattle.directory.specs.Ranges.{IsRange, Covers, upper_half_of}
pub use Rattle.page_locks.specs.declared.lock.Lock.{Lock}
pub use Rattle.page_locks.specs.declared.lock.LockKind.TheVariants.{Selective}
pub use Rattle.page_locks.specs.declared.lock.LockName.TheVariants.{Directory, Page}
pub use Rattle.page_locks.specs.Locks.{lock_of}
pub use Rattle.page_locks.specs.Table.{IsSeat, row_of, with_row}
pub use Rattle.stale_search.specs.file_pages.Files.{IsReady}
pub use Rattle.stale_search.specs.file_pages.Writes.{OnlyWrites}
pub use Rattle.hash_file.specs.Change.{Change, Quiet, Taken, Filled, Linked}
pub use Rattle.step_rules.specs.declared.kind.Kind.TheVariants.{WriteRecord}
pub use Rattle.step_rules.specs.declared.progress.Progress.{Progress}
pub use Rattle.step_rules.specs.declared.progress.Progress.TheVariants.{Moved, Fault, Ended}
pub use Rattle.step_rules.specs.World.{World}
pub use Rattle.step_rules.specs.Known.{Known, OnPage, Live, Built, Told, IsKnown}
pub use Rattle.step_rules.specs.Sound.{IsSoundWorld}
pub use Rattle.step_rules.specs.Structure.{InPhase, HasDepth, Copied, Retargeted, Shaped, BucketOf, Near}
pub use Rattle.step_rules.specs.Pages.{Lacking, Using}
pub use Rattle.step_rules.specs.Turns.{is_fault}
pub use Rattle.stale_search.specs.Searches.{HasNoFileLock}
pub use Rattle.stale_search.specs.Steps.{Sees, Step, WritesPages, world}
pub use Rattle.split_merge.specs.declared.place.SplitPlace.{SplitPlace}
pub use Rattle.split_merge.specs.declared.place.SplitPlace.TheVariants.{TakePage, CopyDirectory, RaiseDepth, WriteNew, WriteOld, Retarget, SetCounts, Done, Full}
