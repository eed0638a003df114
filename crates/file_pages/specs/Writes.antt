-- What a write of a file's page leaves, and which writes a page takes.
use Rattle.std.specs.Prelude.{◌≡◌, ℕ, ◌+◌, ◌<◌, ◌≤◌, Bool, true, None, IsTrue, length}
use Rattle.buffer_pool.specs.Pool.{PoolState, spared}
use Rattle.bucket_page.specs.declared.layout.TheConstants.{RECORD_HEAD_BYTES, ROOM_BYTES}
use Rattle.bucket_page.specs.declared.record_key.RecordKey.{RecordKey}
use Rattle.bucket_page.specs.Records.{lookup, record_bytes}
use Rattle.directory.specs.declared.layout.TheConstants.{ROOT_PAGE}
use Rattle.hash_file.specs.Store.{Store, has_bucket, records_at}
use Rattle.file_pages.specs.Files.{IsFilePool, IsReady}

-- no page is pinned, the device is as honest as it was, the count of faults has not fallen, and what was a file is
-- one where the write succeeded; where there is a frame for each page the device has what it had. Whatever the device
-- gives, there are as many pages as before
pub record OnlyWrites (succeeded : Bool) (old new : PoolState) : Type 0 where
  pub ready : IsReady new
  pub honest : new.honest ≡ old.honest
  pub later : old.faults ≤ new.faults
  pub stored : spared new ≡ spared old
  pub as_many : length new.images ≡ length old.images
  pub file : IsTrue old.honest → IsTrue succeeded → IsFilePool old → IsFilePool new

-- a page of buckets is there, and is one
pub record IsBucketThere (page : ℕ) (s : Store) : Type 0 where
  pub behind : ROOT_PAGE ≤ page
  pub within : page < length s.pages
  pub bucket : has_bucket s page ≡ true

-- the bucket takes a value of so many bytes under a key that it has not
pub record TakesRecord (page : ℕ) (key : RecordKey) (bytes : ℕ) (s : Store) : Type 0 where
  pub there : IsBucketThere page s
  pub absent : lookup key (records_at s page) ≡ None
  pub room : length (record_bytes (records_at s page)) + (RECORD_HEAD_BYTES + bytes) ≤ ROOM_BYTES
