-- Which pages of the directory a doubling and a split write. docs/STEPS.md, "Split".
use Rattle.std.specs.Prelude.{ℕ, suc, ◌-◌, ◌^◌, nat_lt, if◌then◌else◌}
use Rattle.directory.specs.declared.layout.TheConstants.{PAGE_ENTRIES}
use Rattle.directory.specs.Entries.{page_of}

-- the pages that have an entry of the upper half which a directory of this depth gets go from the first to the last
abbrev pub first_upper : ℕ → ℕ
first_upper depth = page_of (2 ^ depth)

abbrev pub last_upper : ℕ → ℕ
last_upper depth = page_of (2 ^ suc depth - 1)

-- from the first entry of a range of this depth on one page to the first one on the next page that has any
abbrev pub stride : ℕ → ℕ
stride depth = if nat_lt (2 ^ depth) PAGE_ENTRIES then PAGE_ENTRIES else 2 ^ depth
