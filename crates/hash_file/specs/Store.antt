-- An extendible hash file as a value: its header, its directory and its pages by number, as all seats see them
-- (Fagin, Nievergelt, Pippenger and Strong 1979; Ellis 1983). Every statement reads by these total functions.
use Rattle.std.specs.Prelude.{ℕ, ◌≡◌, Bool, true, false, List, [], slice_index_or}
use Rattle.directory.specs.declared.range.Range.{Range}
use Rattle.bucket_page.specs.declared.page.PageKind.{PageKind}
use Rattle.bucket_page.specs.declared.page.PageKind.TheVariants as kinds
use Rattle.bucket_page.specs.Bucket.{Bucket, bucket}
use Rattle.bucket_page.specs.Records.{Pair}
use Rattle.bucket_page.specs.directory.declared.header.Header.{Header}

-- where the first bucket of the chain stands, and how deep the directory may grow
pub record Layout : Type 0 where
  pub root : ℕ
  pub greatest : ℕ

-- the entries of all directory pages stand in one list; pages below the root hold anything
pub record Store : Type 0 where
  pub layout : Layout
  pub header : Header
  pub entries : List ℕ
  pub pages : List PageKind

abbrev pub page_at : Store → ℕ → PageKind
page_at s n = slice_index_or s.pages n (kinds.Free 0)

abbrev pub entry_at : Store → ℕ → ℕ
entry_at s i = slice_index_or s.entries i 0

-- what the header says of the buckets of a local depth
abbrev pub count_at : Store → ℕ → ℕ
count_at s depth = slice_index_or s.header.counts depth 0

abbrev pub is_bucket : PageKind → Bool
is_bucket (kinds.Bucket b) = true
is_bucket page = false

-- the bucket on a page; of a tombstone or a free page one that is empty, and followed by its link
abbrev pub bucket_of : PageKind → Bucket
bucket_of (kinds.Bucket b) = b
bucket_of (kinds.Directory es) = bucket 0 0 0 []
bucket_of (kinds.Tombstone link) = bucket 0 0 link []
bucket_of (kinds.Free link) = bucket 0 0 link []

abbrev pub has_bucket : Store → ℕ → Bool
has_bucket s n = is_bucket (page_at s n)

abbrev pub bucket_at : Store → ℕ → Bucket
bucket_at s n = bucket_of (page_at s n)

abbrev pub range_of : Bucket → Range
range_of b = record { depth = b.depth; pattern = b.pattern }

abbrev pub range_at : Store → ℕ → Range
range_at s n = range_of (bucket_at s n)

abbrev pub records_at : Store → ℕ → List Pair
records_at s n = (bucket_at s n).records

-- the next page on the chain; of a tombstone or a free page its link
abbrev pub next_at : Store → ℕ → ℕ
next_at s n = (bucket_at s n).next

-- the page is free, whatever follows it
abbrev pub IsFreePage : Store → ℕ → Type 0
IsFreePage s n = page_at s n ≡ kinds.Free (next_at s n)
