-- How the slots of a table are tied to the rows of its seats.
use Rattle.std.specs.Prelude.{◌≡◌, ◌≢◌, ◌⊎◌, ℕ, List, [], None}
use Rattle.page_locks.specs.declared.lock.LockName.{LockName}
use Rattle.page_locks.specs.declared.slot.Slot.{Slot}
use Rattle.page_locks.specs.Holding.{kind_at}
use Rattle.page_locks.specs.Probing.{home, holders_of}
use Rattle.page_locks.specs.Table.{Table, row_of, held, IsLawful}

-- what is true of every table with its slots
pub record IsTied (slots : List Slot) (t : Table) : Type 0 where
  -- the rows keep the limits and go together
  pub lawful : IsLawful t
  -- a seat holds a name as the slots say
  pub ties : (seat : ℕ) (name : LockName) → kind_at (holders_of slots name) seat ≡ held t seat name

-- no seat holds a lock
abbrev pub IsUnheld : Table → Type 0
IsUnheld t = (seat : ℕ) → row_of t seat ≡ []

-- what is true of every table with its slots and of how many were looked at
pub record IsSoundTable (slots : List Slot) (t : Table) (looked : ℕ) : Type 0 where
  -- the slots say what the rows say
  pub tied : IsTied slots t
  -- before the first lock was asked for nobody holds one
  pub begun : looked ≡ 0 → IsUnheld t

-- a seat holds the name, or it is asked for
abbrev pub IsHeldOrAsked : Table → LockName → LockName → Type 0
IsHeldOrAsked t asked name = (name ≡ asked) ⊎ ((seat : ℕ) × (held t seat name ≢ None))

-- no two of these names have one home
abbrev pub AreHomesApart : Table → LockName → Type 0
AreHomesApart t asked =
    (a b : LockName) → IsHeldOrAsked t asked a → IsHeldOrAsked t asked b → home a ≡ home b → a ≡ b
