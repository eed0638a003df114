-- The directory on its pages: where an entry stands, and what it is after a change.
use Rattle.std.specs.Prelude.{ℕ, ◌+◌, ◌-◌, ◌*◌, ◌/◌, ◌%◌, ◌^◌, ◌==◌, nat_le, nat_lt, Bool, ◌&&◌, List, slice_index, if◌then◌else◌}
use Rattle.directory.specs.declared.range.Range.{Range}
use Rattle.directory.specs.declared.layout.TheConstants.{FIRST_DIRECTORY_PAGE, PAGE_ENTRIES}
use Rattle.directory.specs.Pages.{entries_at}

-- the page of the file in which entry i stands, and its slot there
abbrev pub page_of : ℕ → ℕ
page_of i = FIRST_DIRECTORY_PAGE + i / PAGE_ENTRIES

abbrev pub slot_of : ℕ → ℕ
slot_of i = i % PAGE_ENTRIES

-- the entry in a slot of a page
abbrev pub slot_at : ℕ → List ℕ → ℕ
slot_at slot page = slice_index (entries_at page) slot

-- entry i, where this is the page in which it stands
abbrev pub entry_in : List ℕ → ℕ → ℕ
entry_in page i = slot_at (slot_of i) page

-- the directory of a depth doubles: an entry of the upper half becomes that of the lower half with the same
-- low bits, and any other stays
abbrev pub is_upper : ℕ → ℕ → Bool
is_upper depth i = nat_le (2 ^ depth) i && nat_lt i (2 * 2 ^ depth)

abbrev pub copied : ℕ → List ℕ → List ℕ → ℕ → ℕ
copied depth lower page i = if is_upper depth i then entry_in lower (i - 2 ^ depth) else entry_in page i

-- a bucket gets the entries of a range: those of the directory whose low bits are the pattern; any other stays
abbrev pub is_in_range : ℕ → Range → ℕ → Bool
is_in_range depth range i = nat_lt i (2 ^ depth) && i % 2 ^ range.depth == range.pattern

abbrev pub retargeted : ℕ → Range → ℕ → List ℕ → ℕ → ℕ
retargeted depth range bucket page i = if is_in_range depth range i then bucket else entry_in page i
