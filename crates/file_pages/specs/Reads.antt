-- What a read of a file's page leaves, and what it says.
use Rattle.std.specs.Prelude.{◌≡◌, ℕ, ◌≤◌, Bool, true, IsTrue, List, [], ◌++◌, Option, length, take, drop, unwrap_or, ⊤}
use Rattle.std.specs.Option.{option_map}
use Rattle.buffer_pool.specs.Pool.{PoolState, spared}
use Rattle.bucket_page.specs.declared.record_key.RecordKey.{RecordKey}
use Rattle.bucket_page.specs.declared.page.PageKind.{PageKind}
use Rattle.bucket_page.specs.declared.page.PageKind.TheVariants as kinds
use Rattle.bucket_page.specs.Bucket.{Bucket}
use Rattle.bucket_page.specs.Records.{lookup, record_bytes}
use Rattle.directory.specs.Ranges.{Covers}
use Rattle.hash_file.specs.Store.{is_bucket, bucket_of, range_of}
use Rattle.file_pages.specs.Files.{IsFilePool, IsReady}
use Rattle.file_pages.specs.declared.sight.BucketSight.{BucketSight}
use Rattle.file_pages.specs.declared.sight.Sight.{Sight}
use Rattle.file_pages.specs.declared.sight.Sight.TheVariants.{Covering, Naming}

-- nothing but frames has changed, and the count of faults has not fallen; where there is a frame for each page the
-- device has what it had. Whatever the device gives, there are as many pages as before
pub record OnlyReads (succeeded : Bool) (old new : PoolState) : Type 0 where
  pub ready : IsReady new
  pub honest : new.honest ≡ old.honest
  pub later : old.faults ≤ new.faults
  pub stored : spared new ≡ spared old
  pub as_many : length new.images ≡ length old.images
  pub images : IsTrue old.honest → new.images ≡ old.images
  pub file : IsTrue old.honest → IsTrue succeeded → IsFilePool old → IsFilePool new

-- a bucket whose range has the pseudokey
pub record CoversIn (page : PageKind) (k : ℕ) : Type 0 where
  pub bucket : is_bucket page ≡ true
  pub covers : Covers (range_of (bucket_of page)) k

-- what is seen of a page by who looks for a key
abbrev pub IsSight : Sight → PageKind → ℕ → RecordKey → Type 0
IsSight (Covering found) page k key = CoversIn page k ×
    (found ≡ option_map length (lookup key (bucket_of page).records))
IsSight (Naming next) page k key = (CoversIn page k → ⊥) × ((bucket_of page).next ≡ next)

-- what a bucket says beside its records
abbrev pub sight_of : Bucket → BucketSight
sight_of b = record { depth = b.depth; pattern = b.pattern; next = b.next; used = length (record_bytes b.records) }

-- the page is a bucket, and this is what it says beside its records
pub record IsSeen (sight : BucketSight) (page : PageKind) : Type 0 where
  pub bucket : is_bucket page ≡ true
  pub says : sight ≡ sight_of (bucket_of page)

-- a search may come to such a page
abbrev pub IsOnWay : PageKind → Type 0
IsOnWay (kinds.Bucket b) = ⊤
IsOnWay (kinds.Tombstone link) = ⊤
IsOnWay (kinds.Directory es) = ⊥
IsOnWay (kinds.Free next) = ⊥

-- the bytes with a value written over their front, as much of it as they are long
abbrev pub fronted : List ℕ → List ℕ → List ℕ
fronted value bytes = take (length bytes) value ++ drop (length value) bytes

-- the length of a value was told, and it was copied into the room
pub record IsCopied (found : Option ℕ) (value : Option (List ℕ)) (old new : List ℕ) : Type 0 where
  pub found_is : found ≡ option_map length value
  pub copied : new ≡ fronted (unwrap_or value []) old
