-- Words of the crates below and of this one, under one name for its proofs.
pub use Rattle.page_locks.specs.Table.{Table, held, row_of, with_lock}
pub use Rattle.page_locks.specs.Writers.{HasNoWriter, IsWriter, may_write}
pub use Rattle.page_locks.specs.declared.lock.LockKind.{LockKind}
pub use Rattle.page_locks.specs.declared.lock.LockKind.TheVariants.{Exclusive}
pub use Rattle.page_locks.specs.declared.lock.LockName.{LockName}
pub use Rattle.page_locks.specs.declared.lock.LockName.TheVariants.{Directory, Page}
unfoldable pub use Rattle.directory.specs.Positions.{position_of}
pub use Rattle.directory.specs.Ranges.{start_of, upper_half_of}
pub use Rattle.directory.specs.Tiles.{begun}
pub use Rattle.directory.specs.declared.pseudokey.TheConstants.{POSITIONS}
pub use Rattle.directory.specs.declared.range.Range.{Range}
pub use Rattle.bucket_page.specs.Bucket.{Bucket}
pub use Rattle.bucket_page.specs.Dividing.{joined}
pub use Rattle.bucket_page.specs.Keys.{is_same}
pub use Rattle.bucket_page.specs.Records.{Pair, lookup}
pub use Rattle.bucket_page.specs.declared.page.PageKind.{PageKind}
pub use Rattle.bucket_page.specs.declared.record_key.RecordKey.{RecordKey}
pub use Rattle.hash_file.specs.Chain.{IsBucketOf}
unfoldable pub use Rattle.hash_file.specs.Chain.{chain}
pub use Rattle.hash_file.specs.Change.{Absorbed, Buried, Change, Drained, Filled, Freed, Linked, Quiet, Taken, aside, busy}
pub use Rattle.hash_file.specs.Looks.{Answers}
pub use Rattle.hash_file.specs.Phases.{HasPhase, IsBuried, IsDrained}
pub use Rattle.hash_file.specs.Search.{PageLeads}
pub use Rattle.hash_file.specs.Sound.{IsSoundFile}
pub use Rattle.hash_file.specs.Store.{Store, bucket_at, bucket_of, entry_at, is_bucket, next_at, page_at, range_at, records_at}
pub use Rattle.step_rules.specs.Sound.{IsSoundWorld}
pub use Rattle.step_rules.specs.World.{IsHeld, MayAim, World, guard_of, with_locks}
