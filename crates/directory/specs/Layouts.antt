-- The layouts of files: what follows from the numbers of one, and which numbers are a layout.
use Rattle.std.specs.Prelude.{ℕ, ◌≡◌, ◌+◌, ◌*◌, ◌^◌, ◌≤◌}
use Rattle.directory.specs.declared.layout.Layout.{Layout}
use Rattle.directory.specs.declared.layout.TheConstants.{COUNTS_BEGIN, DIRECTORY_PAGES, FIRST_DIRECTORY_PAGE, GREATEST_DEPTH, PAGE_ENTRIES}

-- pages of the shortest file: up to the root bucket, with it
abbrev pub least_pages : Layout → ℕ
least_pages l = l.root_page + 1

-- bytes of the header up to its last count, with it
abbrev pub header_size : Layout → ℕ
header_size l = COUNTS_BEGIN + 4 * l.local_depths

-- the directory has room for the greatest depth, the root bucket stands behind it, each local depth has a count,
-- and nothing is greater than in today's files
pub record IsLayout (l : Layout) : Type 0 where
  pub root : l.root_page ≡ FIRST_DIRECTORY_PAGE + l.directory_pages
  pub room : 2 ^ l.greatest_depth ≤ PAGE_ENTRIES * l.directory_pages
  pub depths : l.local_depths ≡ l.greatest_depth + 1
  pub depth : l.greatest_depth ≤ GREATEST_DEPTH
  pub pages : l.directory_pages ≤ DIRECTORY_PAGES
