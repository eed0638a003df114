-- The world that steps act on: the file, what each seat has locked, and the structure change under way.
-- docs/STEPS.md, "Words" and "Locks".
use Rattle.std.specs.Prelude.{ℕ, ◌⊎◌, IsSome}
use Rattle.std.specs.List.{Contains}
use Rattle.page_locks.specs.declared.lock.LockName.{LockName}
use Rattle.page_locks.specs.declared.lock.LockName.TheVariants.{Directory, Page}
use Rattle.page_locks.specs.Table.{Table, held}
-- the name under whose lock a record is read and written
pub use Rattle.queue_records.specs.Keys.{guard_of}
use Rattle.hash_file.specs.Store.{Store}
use Rattle.hash_file.specs.Chain.{chain}
use Rattle.hash_file.specs.Change.{Change, aside}

pub record World : Type 0 where
  pub store : Store
  pub locks : Table
  pub change : Change

abbrev pub with_locks : Table → World → World
with_locks t w = record { store = w.store; locks = t; change = w.change }

abbrev pub with_store : Store → World → World
with_store s w = record { store = s; locks = w.locks; change = w.change }

-- the world where the file has become s, and the structure change has come to phase c
abbrev pub gone_on : Store → Change → World → World
gone_on s c w = record { store = s; locks = w.locks; change = c }

-- a seat holds a name, in any kind
abbrev pub IsHeld : Table → ℕ → LockName → Type 0
IsHeld t seat name = IsSome (held t seat name)

-- a seat may stand on a page: it has locked it, or holds the directory in which it read of it
abbrev pub MayAim : Table → ℕ → ℕ → Type 0
MayAim t seat page = IsHeld t seat Directory ⊎ IsHeld t seat (Page page)

-- a page leads to some pseudokeys: it is live, or the one that a merge took off the chain
abbrev pub IsReached : World → ℕ → Type 0
IsReached w page = Contains (chain w.store) page ⊎ Contains (aside w.change) page
