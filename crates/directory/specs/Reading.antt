-- Which payloads are no headers, and what the others say. The first test that fails names the refusal.
use Rattle.std.specs.Prelude.{ℕ, ◌==◌, nat_le, nat_eq, Bool, ◌&&◌, List, [], ◌∷◌, take, drop, slice_index, Option, Some, None, Result, Ok, Err, if◌then◌else◌}
use Rattle.std.specs.Cmp.Lexicographic.{pointwise}
use Rattle.page_device.specs.declared.page.TheConstants.{MAX_PAGES}
use Rattle.directory.specs.declared.layout.Layout.{Layout}
use Rattle.directory.specs.declared.layout.TheConstants.{COUNTS_BEGIN, COUNTS_BYTES, LAYOUT, LOCAL_DEPTHS, HEADER, MAGIC}
use Rattle.directory.specs.declared.header.Header.{Header}
use Rattle.directory.specs.declared.read.HeaderFault.{HeaderFault}
use Rattle.directory.specs.declared.read.HeaderFault.TheVariants as faults
use Rattle.directory.specs.Layouts.{header_size, least_pages}
use Rattle.numbers.specs.Numbers.{four_at, numbers_of, is_zero}

-- what stands at the places of the fields
abbrev pub kind_at : List ℕ → ℕ
kind_at bytes = slice_index bytes 0

abbrev pub version_at : List ℕ → ℕ
version_at bytes = slice_index bytes 1

abbrev pub depth_at : List ℕ → ℕ
depth_at bytes = slice_index bytes 2

abbrev pub pages_at : List ℕ → ℕ
pages_at bytes = four_at 12 bytes

-- the bytes of the counts, as many as the longest layout has: behind a shorter one's are zeros;
-- unfoldable, as the numbers are, so that no proof counts them out
unfoldable pub counts_area : List ℕ → List ℕ
counts_area bytes = take COUNTS_BYTES (drop COUNTS_BEGIN bytes)

unfoldable pub counts_at : List ℕ → List ℕ
counts_at bytes = numbers_of LOCAL_DEPTHS (counts_area bytes)

abbrev pub header_at : List ℕ → Header
header_at bytes = record {
  depth = depth_at bytes;
  pages = pages_at bytes;
  first_free = four_at 16 bytes;
  counts = counts_at bytes;
}

-- ---- the tests

-- unfoldable, so that no proof compares it byte by byte
unfoldable pub has_magic : List ℕ → Bool
has_magic bytes = pointwise nat_eq (take 8 (drop 4 bytes)) MAGIC

-- the depth and the number of pages are in range
abbrev pub has_range : Layout → List ℕ → Bool
has_range l bytes =
    nat_le (depth_at bytes) l.greatest_depth && nat_le (least_pages l) (pages_at bytes)
    && nat_le (pages_at bytes) MAX_PAGES

-- each byte that no field of this layout names is zero
abbrev pub has_padding : Layout → List ℕ → Bool
has_padding l bytes = slice_index bytes 3 == 0 && is_zero (drop (header_size l) bytes)

-- unfoldable, so that the order of the tests is proved without them
unfoldable pub has_layout : Layout → List ℕ → Bool
has_layout l bytes = has_range l bytes && has_padding l bytes

-- the fault of the first test that fails
abbrev pub first_failed : List (Bool × HeaderFault) → Option HeaderFault
first_failed [] = None
first_failed (t ∷ ts) = if t.0 then first_failed ts else Some t.1

abbrev pub fault_in : Layout → List ℕ → Option HeaderFault
fault_in l bytes = first_failed (
    (kind_at bytes == HEADER && has_magic bytes, faults.BadHeader)
    ∷ (version_at bytes == l.version, faults.BadVersion)
    ∷ (has_layout l bytes, faults.BadHeader)
    ∷ [])

-- ---- the answer

-- what reading answers where this is the first fault, and this the value
abbrev pub answer : {X : Type 0} → Option HeaderFault → X → Result X HeaderFault
answer None value = Ok value
answer (Some fault) value = Err fault

-- what reading a payload of a layout answers
abbrev pub reading_in : Layout → List ℕ → Result Header HeaderFault
reading_in l payload = answer (fault_in l payload) (header_at payload)

-- ---- today's layout

abbrev pub fault_of : List ℕ → Option HeaderFault
fault_of = fault_in LAYOUT

abbrev pub reading : List ℕ → Result Header HeaderFault
reading = reading_in LAYOUT
