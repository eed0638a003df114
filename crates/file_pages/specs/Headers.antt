-- What a file's header must say for a write of it.
use Rattle.std.specs.Prelude.{ℕ, ◌+◌, ◌<◌, ◌≤◌, ◌^◌, length}
use Rattle.directory.specs.declared.layout.TheConstants.{GREATEST_DEPTH, ROOT_PAGE}
use Rattle.hash_file.specs.Store.{Store, IsFreePage, count_at}

-- there is a free page, which is free
pub record HasFreePage (s : Store) : Type 0 where
  pub behind : ROOT_PAGE ≤ s.header.first_free
  pub within : s.header.first_free < length s.pages
  pub free : IsFreePage s s.header.first_free

-- a bucket of this local depth is counted, and may be split
pub record MaySplitCount (depth : ℕ) (s : Store) : Type 0 where
  pub shallow : depth < GREATEST_DEPTH
  pub some : 1 ≤ count_at s depth
  pub room : count_at s (depth + 1) + 2 < 2 ^ 32

-- two of the next greater local depth are counted, and may be merged into one of this
pub record MayMergeCount (depth : ℕ) (s : Store) : Type 0 where
  pub shallow : depth < GREATEST_DEPTH
  pub some : 2 ≤ count_at s (depth + 1)
  pub room : count_at s depth + 1 < 2 ^ 32
