-- Who may write what a name stands for, and what a change leaves as it was.
use Rattle.std.specs.Prelude.{◌≡◌, ◌≢◌, ℕ, Bool, true, false, Option, Some, None}
use Rattle.page_locks.specs.declared.lock.LockKind.{LockKind}
use Rattle.page_locks.specs.declared.lock.LockKind.TheVariants.{Read, Selective, Exclusive}
use Rattle.page_locks.specs.declared.lock.LockName.{LockName}
use Rattle.page_locks.specs.Table.{Table, row_of, held}

-- a selective and an exclusive holder may write
abbrev pub may_write : Option LockKind → Bool
may_write None = false
may_write (Some Read) = false
may_write (Some Selective) = true
may_write (Some Exclusive) = true

abbrev pub IsWriter : Table → ℕ → LockName → Type 0
IsWriter t seat name = may_write (held t seat name) ≡ true

-- no seat holds the name in a kind that may write
abbrev pub HasNoWriter : Table → LockName → Type 0
HasNoWriter t name = (seat : ℕ) → may_write (held t seat name) ≡ false

-- at most one seat does
abbrev pub HasOneWriter : Table → LockName → Type 0
HasOneWriter t name = (i j : ℕ) → IsWriter t i name → IsWriter t j name → i ≡ j

-- all seats hold what they held, but perhaps this seat this name
pub record ChangesOnly (seat : ℕ) (name : LockName) (old new : Table) : Type 0 where
  pub rows : (other : ℕ) → other ≢ seat → row_of new other ≡ row_of old other
  pub names : (other : LockName) → name ≢ other → held new seat other ≡ held old seat other
