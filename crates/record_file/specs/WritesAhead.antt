-- What a deed writes at once into the bucket on a page that is in a frame, with nothing more due behind it.
-- docs/STEPS.md, "Search".
use Rattle.std.specs.Prelude.{ℕ, ◌≡◌, ◌≤◌, ◌+◌, true, false, List, length, Option, Some, None, IsSome, IsTrue, slice_get}
use Rattle.std.specs.Option.{option_map}
use Rattle.bucket_page.specs.Bucket.{Bucket}
use Rattle.bucket_page.specs.Changes.{IsBucketPage}
use Rattle.bucket_page.specs.Reading.{bucket_in}
use Rattle.bucket_page.specs.declared.layout.TheConstants.{RECORD_HEAD_BYTES, ROOM_BYTES}
use Rattle.hash_file.specs.Changes.{write_record}
use Rattle.hash_file.specs.Store.{bucket_at}
use Rattle.file_pages.specs.Writes.{IsBucketThere}
use Rattle.record_file.specs.Words.{RecordKey, pair, lookup, record_bytes, value_of_key, PoolState, Store, store_of, records_at, OnlyWrites, Put, Replace, Remove}
use Rattle.record_file.specs.BucketAccesses.{is_due, with_front}
use Rattle.record_file.specs.declared.bucket_access.Deed.{Deed}
use Rattle.record_file.specs.declared.bucket_access.Deed.TheVariants as deeds

-- the bucket on a page, as the image of that page has it
pub record IsBucketAhead (page : ℕ) (images : List (List ℕ)) (b : Bucket) : Type 0 where
  pub there : IsBucketThere page (store_of images)
  pub is : b ≡ bucket_at (store_of images) page
  pub image : (payload : List ℕ) → slice_get images page ≡ Some payload → IsBucketPage payload × (b ≡ bucket_in payload)

-- what it makes of the file, where these bytes are lent
abbrev pub written_on : Deed → (page : ℕ) → RecordKey → List ℕ → Store → Store
written_on deeds.Find page key bytes s = s
written_on deeds.Put page key bytes s = write_record page (Put (pair key bytes)) s
written_on deeds.Replace page key bytes s =
    write_record page (Replace (pair key (with_front bytes (value_of_key key (records_at s page))))) s
written_on deeds.Remove page key bytes s = write_record page (Remove key) s

-- it can be done where the page has this of the key, and nothing more is due behind it: there is room, or no merge
abbrev pub IsLast : Deed → (page : ℕ) → Option ℕ → List ℕ → Store → Type 0
IsLast deeds.Find page found bytes s = ⊥
IsLast deeds.Put page None bytes s =
    length (record_bytes (records_at s page)) + (RECORD_HEAD_BYTES + length bytes) ≤ ROOM_BYTES
IsLast deeds.Put page (Some len) bytes s = ⊥
IsLast deeds.Replace page found bytes s = IsSome found
IsLast deeds.Remove page None bytes s = ⊥
IsLast deeds.Remove page (Some len) bytes s =
    is_due (bucket_at s page).depth (length (record_bytes (records_at s page))) len ≡ false

-- the deed is done
pub record WritesOn (deed : Deed) (page : ℕ) (found : Option ℕ) (key : RecordKey) (bytes : List ℕ)
    (pool pool' : PoolState) : Type 0 where
  -- of the key the page had a value of this length, or none
  pub has : found ≡ option_map length (lookup key (records_at (store_of pool.images) page))
  pub last : IsLast deed page found bytes (store_of pool.images)
  pub writes : OnlyWrites true pool pool'
  pub is : IsTrue pool.honest → store_of pool'.images ≡ written_on deed page key bytes (store_of pool.images)
