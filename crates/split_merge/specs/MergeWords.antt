-- Words of the crates below, under one name.
pub use Rattle.directory.specs.declared.range.Range.{Range}
pub use Rattle.directory.specs.Ranges.{IsRange, Covers, is_lower, parent_of, buddy_of, lower_half_of, upper_half_of}
pub use Rattle.bucket_page.specs.declared.record_key.RecordKey.{RecordKey}
pub use Rattle.directory.specs.declared.layout.TheConstants.{DIRECTORY_PAGES, GREATEST_DEPTH, PAGE_ENTRIES, ROOT_PAGE}
pub use Rattle.directory.specs.Entries.{page_of}
pub use Rattle.page_locks.specs.declared.lock.Lock.{Lock}
pub use Rattle.page_locks.specs.declared.lock.LockKind.{LockKind}
pub use Rattle.page_locks.specs.declared.lock.LockKind.TheVariants.{Read, Selective, Exclusive}
pub use Rattle.page_locks.specs.declared.lock.LockName.{LockName}
pub use Rattle.page_locks.specs.declared.lock.LockName.TheVariants.{Directory, Page}
pub use Rattle.page_locks.specs.Table.{Table, row_of, with_row}
pub use Rattle.stale_search.specs.buffer_pool.Pool.{PoolState}
unfoldable pub use Rattle.stale_search.specs.file_pages.Files.{store_of}
pub use Rattle.hash_file.specs.Store.{Store}
pub use Rattle.hash_file.specs.Change.{Change, Quiet, Absorbed, Buried, Drained, Freed}
pub use Rattle.step_rules.specs.declared.kind.TheConstants.{MERGED_BYTES}
pub use Rattle.step_rules.specs.declared.progress.Progress.{Progress}
pub use Rattle.step_rules.specs.declared.progress.Progress.TheVariants.{Moved, Blocked, Fault, Ended}
pub use Rattle.step_rules.specs.World.{World}
pub use Rattle.step_rules.specs.Pages.{Using}
pub use Rattle.step_rules.specs.Structure.{InPhase, HasDepth, HasCount, Retargeted, Shaped, BucketOf}
pub use Rattle.step_rules.specs.Known.{Known, OnPage, Built}
pub use Rattle.step_rules.specs.Turns.{Ask, ForLock, ToExclusive, Turn}
pub use Rattle.stale_search.specs.Approaches.{ApproachView, approach_locks, approach_facts, approach_turn, approach_left}
pub use Rattle.stale_search.specs.Rows.{HasNoFileLock, EndsRow, in_directory, on_page}
pub use Rattle.stale_search.specs.Steps.{Sees, Step, Nears, world}
pub use Rattle.split_merge.specs.declared.merge_place.Seen.{Seen}
pub use Rattle.split_merge.specs.declared.merge_place.Own.{Own}
pub use Rattle.split_merge.specs.declared.merge_place.Buddies.{Buddies}
pub use Rattle.split_merge.specs.declared.merge_place.Joint.{Joint}
pub use Rattle.split_merge.specs.declared.merge_place.MergePlace.{MergePlace}
pub use Rattle.split_merge.specs.declared.merge_place.MergePlace.TheVariants.{Approaching, ReadBuddy, GrantRight, GiveBack, GrantLeft, GrantRightAgain, LookLeft, LookRight, WriteLeft, Tombstone, Retarget, SetCounts, ReleaseRight, ReleaseLeft, Convert, GrantAlone, WriteFree, LinkFree, LowerDepth, ReleaseAlone, GiveUpRight, GiveUp, ReleaseDirectory, Done}
