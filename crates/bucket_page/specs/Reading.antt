-- Which payloads are refused, and what the others say. The first test that fails names the refusal.
use Rattle.std.specs.Prelude.{ℕ, ◌^◌, ◌==◌, nat_le, nat_lt, Bool, ◌&&◌, ◌||◌, List, [], ◌∷◌, take, drop, slice_index, Option, Some, None, Result, Ok, Err, if◌then◌else◌}
use Rattle.bucket_page.specs.declared.layout.TheConstants.{BUCKET, FREE, LINK_BYTES, ROOM_BYTES, TOMBSTONE}
use Rattle.directory.specs.declared.layout.TheConstants.{DIRECTORY, GREATEST_DEPTH, HEAD_BYTES}
use Rattle.bucket_page.specs.declared.head.Head.{Head}
use Rattle.bucket_page.specs.declared.page.Malformed.{Malformed}
use Rattle.bucket_page.specs.declared.page.Malformed.TheVariants as faults
use Rattle.bucket_page.specs.declared.page.PageKind.{PageKind}
use Rattle.bucket_page.specs.declared.page.PageKind.TheVariants as kinds
use Rattle.directory.specs.numbers.Numbers.{two_at, four_at, is_zero}
use Rattle.bucket_page.specs.Records.{Pair, pairs_of, fills, ascend}
use Rattle.bucket_page.specs.Bucket.{Bucket}
use Rattle.directory.specs.Pages.{entries_at, has_entries_padding}

-- what stands at the places of a page's fields
abbrev pub kind_at : List ℕ → ℕ
kind_at bytes = slice_index bytes 0

abbrev pub local_depth_at : List ℕ → ℕ
local_depth_at bytes = slice_index bytes 1

abbrev pub record_count_at : List ℕ → ℕ
record_count_at bytes = two_at 2 bytes

abbrev pub used_at : List ℕ → ℕ
used_at bytes = two_at 12 bytes

-- the bytes of the records, and those after them
abbrev pub area : List ℕ → List ℕ
area bytes = take (used_at bytes) (drop HEAD_BYTES bytes)

abbrev pub after_area : List ℕ → List ℕ
after_area bytes = drop (used_at bytes) (drop HEAD_BYTES bytes)

abbrev pub bucket_in : List ℕ → Bucket
bucket_in bytes = record {
  depth = local_depth_at bytes;
  pattern = four_at 4 bytes;
  next = four_at 8 bytes;
  records = pairs_of (record_count_at bytes) (area bytes);
}

abbrev pub records_in : List ℕ → List Pair
records_in bytes = (bucket_in bytes).records

abbrev pub head_at : List ℕ → Head
head_at bytes = record {
  depth = local_depth_at bytes;
  count = record_count_at bytes;
  pattern = four_at 4 bytes;
  next = four_at 8 bytes;
  used = used_at bytes;
}

-- a tombstone or a free page
abbrev pub link_page_at : List ℕ → PageKind
link_page_at bytes =
    if kind_at bytes == TOMBSTONE then kinds.Tombstone (four_at 4 bytes)
    else kinds.Free (four_at 4 bytes)

abbrev pub page_in : List ℕ → PageKind
page_in bytes =
    if kind_at bytes == BUCKET then kinds.Bucket (bucket_in bytes)
    else if kind_at bytes == DIRECTORY then kinds.Directory (entries_at bytes)
    else link_page_at bytes

-- ---- the tests

-- the fault of the first test that fails
abbrev pub first_failed : List (Bool × Malformed) → Option Malformed
first_failed [] = None
first_failed (t ∷ ts) = if t.0 then first_failed ts else Some t.1

-- the depth is in range
abbrev pub has_depth : List ℕ → Bool
has_depth bytes = nat_le (local_depth_at bytes) GREATEST_DEPTH

-- the pattern has no bit beyond the depth
abbrev pub has_pattern : List ℕ → Bool
has_pattern bytes = nat_lt (four_at 4 bytes) (2 ^ local_depth_at bytes)

-- the number of records fills the bytes of records, and those fit
abbrev pub has_lengths : List ℕ → Bool
has_lengths bytes = nat_le (used_at bytes) ROOM_BYTES && fills (record_count_at bytes) (area bytes)

-- keys ascend strictly
abbrev pub has_order : List ℕ → Bool
has_order bytes = ascend (pairs_of (record_count_at bytes) (area bytes))

-- each byte that a bucket's layout doesn't name is zero
abbrev pub has_padding : List ℕ → Bool
has_padding bytes = is_zero (take 2 (drop 14 bytes)) && is_zero (after_area bytes)

abbrev pub bucket_fault : List ℕ → Option Malformed
bucket_fault bytes = first_failed (
    (has_depth bytes, faults.Depth)
    ∷ (has_pattern bytes, faults.Pattern)
    ∷ (has_lengths bytes, faults.Lengths)
    ∷ (has_order bytes, faults.Order)
    ∷ (has_padding bytes, faults.Padding)
    ∷ [])

abbrev pub directory_fault : List ℕ → Option Malformed
directory_fault bytes = first_failed ((has_entries_padding bytes, faults.Padding) ∷ [])

-- each byte that is neither the kind nor the link is zero
abbrev pub has_link_padding : List ℕ → Bool
has_link_padding bytes = is_zero (take 3 (drop 1 bytes)) && is_zero (drop LINK_BYTES bytes)

abbrev pub link_fault : List ℕ → Option Malformed
link_fault bytes = first_failed ((has_link_padding bytes, faults.Padding) ∷ [])

abbrev pub link_page_fault : List ℕ → Option Malformed
link_page_fault bytes =
    if kind_at bytes == TOMBSTONE || kind_at bytes == FREE then link_fault bytes
    else Some faults.Kind

abbrev pub fault_of : List ℕ → Option Malformed
fault_of bytes =
    if kind_at bytes == BUCKET then bucket_fault bytes
    else if kind_at bytes == DIRECTORY then directory_fault bytes
    else link_page_fault bytes

-- ---- the answer

-- what reading answers where this is the first fault, and this the value
abbrev pub answer : {X : Type 0} → Option Malformed → X → Result X Malformed
answer None value = Ok value
answer (Some fault) value = Err fault

-- what reading a payload answers
abbrev pub reading : List ℕ → Result PageKind Malformed
reading payload = answer (fault_of payload) (page_in payload)
