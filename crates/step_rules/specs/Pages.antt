-- What a seat may know of the page that it has locked, in a few numbers.
-- docs/STEPS.md, "What a seat may know".
use Rattle.std.specs.Prelude.{ℕ, ◌≡◌, length, None}
use Rattle.bucket_page.specs.declared.page.PageKind.{PageKind}
use Rattle.bucket_page.specs.declared.page.PageKind.TheVariants as kinds
use Rattle.bucket_page.specs.declared.record_key.RecordKey.{RecordKey}
use Rattle.bucket_page.specs.Bucket.{Bucket}
use Rattle.bucket_page.specs.Records.{Pair, pair_bytes, record_bytes, lookup}
use Rattle.bucket_page.specs.Changes.{HasValueOf}
use Rattle.hash_file.specs.Store.{Store, page_at, bucket_at, records_at}
use Rattle.hash_file.specs.Looks.{Answers}

-- the bytes of a bucket's records, and those of one record
abbrev pub used_of : Bucket → ℕ
used_of b = length (record_bytes b.records)

abbrev pub used_on : Store → ℕ → ℕ
used_on s n = used_of (bucket_at s n)

abbrev pub size_of : Pair → ℕ
size_of p = length (pair_bytes p)

-- the kinds of page
pub data Sort : Type 0 where
  BucketPage : Sort
  DirectoryPage : Sort
  TombstonePage : Sort
  FreePage : Sort

abbrev pub sort_of : PageKind → Sort
sort_of (kinds.Bucket b) = BucketPage
sort_of (kinds.Directory es) = DirectoryPage
sort_of (kinds.Tombstone link) = TombstonePage
sort_of (kinds.Free next) = FreePage

pub data PageFact : Type 0 where
  -- it is a bucket whose range has the pseudokey
  Covering : (pseudokey : ℕ) → PageFact
  -- it has no record of the key
  Lacking : (key : RecordKey) → PageFact
  -- it has one, with a value of so many bytes
  Having : (key : RecordKey) (bytes : ℕ) → PageFact
  -- its records have so many bytes
  Using : (bytes : ℕ) → PageFact
  -- it is of this kind
  Being : (sort : Sort) → PageFact

abbrev pub IsOf : Store → ℕ → PageFact → Type 0
IsOf s n (Covering pseudokey) = Answers s n pseudokey
IsOf s n (Lacking key) = lookup key (records_at s n) ≡ None
IsOf s n (Having key bytes) = HasValueOf bytes key (records_at s n)
IsOf s n (Using bytes) = used_on s n ≡ bytes
IsOf s n (Being sort) = sort_of (page_at s n) ≡ sort
