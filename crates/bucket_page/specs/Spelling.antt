-- The one spelling of each page (docs/FORMAT.md, "Pages"), and which pages have one.
use Rattle.std.specs.Prelude.{◌≡◌, ℕ, ◌-◌, ◌≤◌, ◌<◌, ◌^◌, true, List, ◌∷◌, ◌++◌, length}
use Rattle.std.specs.List.{AllByRecursion}
use Rattle.bucket_page.specs.declared.layout.TheConstants.{BUCKET, FREE, LINK_BYTES, ROOM_BYTES, TOMBSTONE}
use Rattle.directory.specs.page_device.declared.page.TheConstants.{PAYLOAD_BYTES}
use Rattle.directory.specs.declared.layout.TheConstants.{GREATEST_DEPTH}
use Rattle.bucket_page.specs.declared.head.Head.{Head}
use Rattle.bucket_page.specs.declared.page.PageKind.{PageKind}
use Rattle.bucket_page.specs.declared.page.PageKind.TheVariants as kinds
use Rattle.directory.specs.numbers.Numbers.{two, four, zeros}
use Rattle.bucket_page.specs.Records.{IsPair, record_bytes, ascend}
use Rattle.bucket_page.specs.Bucket.{Bucket}
use Rattle.directory.specs.Pages.{IsDirectory, directory_bytes}

-- the sixteen bytes of a bucket's head
abbrev pub head_bytes : Head → List ℕ
head_bytes h =
    BUCKET ∷ h.depth ∷ (two h.count ++ (four h.pattern ++ (four h.next ++ (two h.used ++ zeros 2))))

abbrev pub head_of : Bucket → Head
head_of b = record {
  depth = b.depth;
  count = length b.records;
  pattern = b.pattern;
  next = b.next;
  used = length (record_bytes b.records);
}

-- the bytes with zeros behind them
abbrev pub padded : ℕ → List ℕ → List ℕ
padded room bytes = bytes ++ zeros (room - length bytes)

abbrev pub bucket_bytes : Bucket → List ℕ
bucket_bytes b = head_bytes (head_of b) ++ padded ROOM_BYTES (record_bytes b.records)

-- a tombstone or a free page names one page
abbrev pub link_bytes : ℕ → ℕ → List ℕ
link_bytes kind page = kind ∷ (zeros 3 ++ (four page ++ zeros (PAYLOAD_BYTES - LINK_BYTES)))

-- the payload that spells a page
abbrev pub bytes_of : PageKind → List ℕ
bytes_of (kinds.Bucket b) = bucket_bytes b
bytes_of (kinds.Directory es) = directory_bytes es
bytes_of (kinds.Tombstone link) = link_bytes TOMBSTONE link
bytes_of (kinds.Free next) = link_bytes FREE next

-- a bucket that has a spelling
pub record IsBucket (b : Bucket) : Type 0 where
  pub depth : b.depth ≤ GREATEST_DEPTH
  pub pattern : b.pattern < 2 ^ b.depth
  pub next : b.next < 2 ^ 32
  pub pairs : AllByRecursion IsPair b.records
  pub room : length (record_bytes b.records) ≤ ROOM_BYTES
  pub order : ascend b.records ≡ true

-- a page that has a spelling
abbrev pub IsPage : PageKind → Type 0
IsPage (kinds.Bucket b) = IsBucket b
IsPage (kinds.Directory es) = IsDirectory es
IsPage (kinds.Tombstone link) = link < 2 ^ 32
IsPage (kinds.Free next) = next < 2 ^ 32

-- the payload is the spelling of this page
pub record Spells (page : PageKind) (payload : List ℕ) : Type 0 where
  pub in_range : IsPage page
  pub spelled : payload ≡ bytes_of page
