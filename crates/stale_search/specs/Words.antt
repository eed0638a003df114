-- Words of the crates below, under one name.
pub use Rattle.file_pages.specs.bucket_page.declared.record_key.RecordKey.{RecordKey}
pub use Rattle.file_pages.specs.buffer_pool.Pool.{PoolState}
pub use Rattle.page_locks.specs.declared.row.TheConstants.{MAX_LOCKS}
pub use Rattle.page_locks.specs.Locks.{kind_of, lock_of, is_same, is_on, without}
pub use Rattle.page_locks.specs.Table.{Table, IsSeat, IsOpposed, Opposes, row_of, held, with_row, with_lock, without_lock}
unfoldable pub use Rattle.file_pages.specs.Files.{store_of}
pub use Rattle.file_pages.specs.Files.{IsFilePool}
pub use Rattle.file_pages.specs.Reads.{OnlyReads, IsOnWay}
pub use Rattle.step_rules.specs.declared.progress.Progress.{Progress}
pub use Rattle.step_rules.specs.declared.progress.Progress.TheVariants.{Moved, Blocked, Fault, Ended}
pub use Rattle.step_rules.specs.World.{World, IsHeld, IsReached}
pub use Rattle.step_rules.specs.Sound.{IsSoundWorld}
pub use Rattle.step_rules.specs.Known.{Known, Deep, LeadsTo, OnPage, Live, Built, Told, IsKnown, AllKnown}
pub use Rattle.step_rules.specs.Turns.{Ask, ForLock, ForEntry, ForPage, ForAnswer, HopFrom, Turn}
pub use Rattle.stale_search.specs.declared.place.SearchPlace.{SearchPlace}
pub use Rattle.stale_search.specs.declared.place.SearchPlace.TheVariants.{GrantDirectory, ReadDepth, ReadEntry, GrantPage, ReleaseDirectory, Look, Hop, Found}
