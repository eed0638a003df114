-- The locks of a machine in the row of its seat, behind those that the seat had before.
use Rattle.std.specs.Prelude.{ℕ, ◌≡◌, ◌≤◌, ◌+◌, List, [], ◌∷◌, ◌++◌, length, None}
use Rattle.step_rules.specs.Words.{Lock, LockKind, Directory, Page}
use Rattle.stale_search.specs.Words.{MAX_LOCKS, kind_of, lock_of}

-- no lock on the directory or a page
pub record HasNoFileLock (locks : List Lock) : Type 0 where
  pub directory : kind_of locks Directory ≡ None
  pub pages : (n : ℕ) → kind_of locks (Page n) ≡ None

abbrev pub in_directory : LockKind → List Lock → List Lock
in_directory kind before = before ++ lock_of Directory kind ∷ []

abbrev pub on_page : ℕ → LockKind → List Lock → List Lock
on_page n kind before = before ++ lock_of (Page n) kind ∷ []

-- a row of locks ends with these; the others are on no page, and leave places for the most that there will be
pub record EndsRow (locks : List Lock → List Lock) (most : ℕ) (row : List Lock) : Type 0 where
  pub before : List Lock
  pub bare : HasNoFileLock before
  pub room : length before + most ≤ MAX_LOCKS
  pub is : row ≡ locks before
