-- The one seat of a file, between its accesses and under way (docs/STEPS.md, "Locks").
use Rattle.std.specs.Prelude.{◌≡◌, ◌≤◌, List, [], ◌∷◌, length}
use Rattle.bucket_page.specs.declared.record_key.RecordKey.{RecordKey}
use Rattle.buffer_pool.specs.Pool.{PoolState}
use Rattle.file_pages.specs.Files.{IsReady}
use Rattle.page_locks.specs.Locks.{lock_of}
use Rattle.page_locks.specs.Table.{Table}
use Rattle.page_locks.specs.declared.lock.Lock.{Lock}
use Rattle.page_locks.specs.declared.lock.LockKind.TheVariants.{Exclusive}
use Rattle.queue_records.specs.Keys.{guard_of}

-- nothing is pinned, and the one seat of the table holds these locks
pub record IsAlone (held : List Lock) (pool : PoolState) (locks : Table) : Type 0 where
  pub ready : IsReady pool
  pub row : locks ≡ held ∷ []

-- the device is as honest as it was, there are as many pages, and the count of failed transfers has not fallen
pub record KeepsPool (old new : PoolState) : Type 0 where
  pub honest : new.honest ≡ old.honest
  pub as_many : length new.images ≡ length old.images
  pub later : old.faults ≤ new.faults

-- the lock under which the record of a key is written
abbrev pub lock_on : RecordKey → List Lock
lock_on key = lock_of (guard_of key) Exclusive ∷ []
