-- The pages of a file of which all records stand in the root bucket.
-- docs/FORMAT.md, "Pages".
use Rattle.std.specs.Prelude.{◌≡◌, ℕ, ◌+◌, ◌<◌, ◌≤◌, ◌==◌, nat_lt, List, [], ◌∷◌, length, replicate, slice_index_or, slice_set, if◌then◌else◌, ⊤}
use Rattle.page_device.specs.Sealed.{IsSealed, payload_of}
use Rattle.page_device.specs.declared.page.TheConstants.{MAX_PAGES}
use Rattle.page_device.specs.declared.fault.DeviceFault.{DeviceFault}
use Rattle.page_device.specs.declared.fault.DeviceFault.TheVariants.{Device, BadDigest, PastEnd, DeviceFull, NoMemory}
use Rattle.directory.specs.declared.layout.TheConstants.{FIRST_DIRECTORY_PAGE, LEAST_PAGES, LOCAL_DEPTHS, PAGE_ENTRIES, ROOT_PAGE}
use Rattle.directory.specs.declared.header.Header.{Header}
use Rattle.directory.specs.Spelling.{header_bytes}
use Rattle.bucket_page.specs.declared.page.PageKind.TheVariants as kinds
use Rattle.bucket_page.specs.Bucket.{Bucket, bucket}
use Rattle.bucket_page.specs.Records.{Pair, pair}
use Rattle.bucket_page.specs.Spelling.{IsBucket, bytes_of}
use Rattle.step_rules.specs.queue_records.declared.counter.Counter.{Counter}
use Rattle.step_rules.specs.queue_records.Spelling.{counter_key, counter_bytes}

-- the page that follows on the list of free pages, 0 behind the last
abbrev pub free_behind : ℕ → ℕ → ℕ
free_behind pages page = if page + 1 == pages then 0 else page + 1

-- depth 0, one bucket, of local depth 0, and the pages behind it are free
abbrev pub file_header : ℕ → Header
file_header pages = record {
  depth = 0;
  pages = pages;
  first_free = free_behind pages ROOT_PAGE;
  counts = slice_set (replicate LOCAL_DEPTHS 0) 0 1;
}

-- entry 0 is the root bucket's page
abbrev pub entries_on : ℕ → List ℕ
entries_on page =
    if page == FIRST_DIRECTORY_PAGE then slice_set (replicate PAGE_ENTRIES 0) 0 ROOT_PAGE
    else replicate PAGE_ENTRIES 0

-- the root bucket, which has the range of all pseudokeys and nothing behind it
abbrev pub root_bucket : List Pair → Bucket
root_bucket rs = bucket 0 0 0 rs

-- the payload of each page of a file whose root bucket has these records
abbrev pub file_page : ℕ → List Pair → ℕ → List ℕ
file_page pages rs page =
    if page == 0 then header_bytes (file_header pages)
    else if page == ROOT_PAGE then bytes_of (kinds.Bucket (root_bucket rs))
    else if nat_lt page ROOT_PAGE then bytes_of (kinds.Directory (entries_on page))
    else bytes_of (kinds.Free (free_behind pages page))

-- so many pages are those of a file whose root bucket has these records
pub record IsFile (pages : ℕ) (rs : List Pair) (content : List (List ℕ)) : Type 0 where
  -- a file has no fewer pages and no more
  pub least : LEAST_PAGES ≤ pages
  pub most : pages ≤ MAX_PAGES
  -- the records are those of a bucket
  pub bucket : IsBucket (root_bucket rs)
  -- each page is sealed, and has its payload
  pub as_many : length content ≡ pages
  pub sealed : (page : ℕ) → page < pages → IsSealed page (slice_index_or content page [])
  pub payload : (page : ℕ) → page < pages → payload_of (slice_index_or content page []) ≡ file_page pages rs page

-- ---- new files

-- the Counter: the next id is 1, and no queue is alive
abbrev pub new_counter : Counter
new_counter = record { next_id = 1; queues_alive = 0 }

abbrev pub new_records : List Pair
new_records = pair counter_key (counter_bytes new_counter) ∷ []

-- the payload of each page of a new file
abbrev pub new_page : ℕ → ℕ → List ℕ
new_page pages page = file_page pages new_records page

abbrev pub IsNewFile : ℕ → List (List ℕ) → Type 0
IsNewFile pages content = IsFile pages new_records content

-- what the making of a file may tell
abbrev pub MayNotFormat : DeviceFault → Type 0
MayNotFormat Device = ⊤
MayNotFormat BadDigest = ⊥
MayNotFormat PastEnd = ⊥
MayNotFormat DeviceFull = ⊥
MayNotFormat NoMemory = ⊤
