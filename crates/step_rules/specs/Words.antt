-- Words of the crates below, under one name.
pub use Rattle.page_locks.specs.declared.lock.Lock.{Lock}
pub use Rattle.page_locks.specs.declared.lock.LockKind.{LockKind}
pub use Rattle.page_locks.specs.declared.lock.LockKind.TheVariants.{Read, Selective, Exclusive}
pub use Rattle.page_locks.specs.declared.lock.LockName.{LockName}
pub use Rattle.page_locks.specs.declared.lock.LockName.TheVariants.{Key, Counter, Queue, Directory, Page}
pub use Rattle.hash_file.specs.Store.{Store, bucket_of, bucket_at, range_at, records_at, entry_at, next_at}
unfoldable pub use Rattle.hash_file.specs.Chain.{chain}
pub use Rattle.hash_file.specs.Chain.{IsBucketOf}
pub use Rattle.hash_file.specs.Change.{Change, Quiet, Taken, Filled, Linked, Absorbed, Buried, Drained, Freed, busy, owned}
pub use Rattle.hash_file.specs.Search.{PageLeads, distance}
pub use Rattle.hash_file.specs.Looks.{Answers}
pub use Rattle.hash_file.specs.Sound.{IsSoundFile, IsFreeList}
