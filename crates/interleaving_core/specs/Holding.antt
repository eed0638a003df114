-- What a seat holds of the file: the directory's lock and those of pages. docs/STEPS.md, "Locks".
use Rattle.std.specs.Prelude.{ℕ, ◌≡◌, Option, Some, None}
use Rattle.page_locks.specs.Table.{held}
use Rattle.page_locks.specs.declared.lock.LockName.TheVariants.{Directory, Page}
use Rattle.xsi_calls.specs.FileLocks.{directory_under, page_under}
use Rattle.xsi_calls.specs.Machine.{access_under_way}
use Rattle.xsi_calls.specs.call_writes.WriteWords.{AccessView}
use Rattle.interleaving_core.specs.Active.{ActiveView}
use Rattle.interleaving_core.specs.Kernel.{KernelState, call_at}

-- the access at which the call of a seat is
abbrev pub access_of : Option ActiveView → Option AccessView
access_of None = None
access_of (Some a) = access_under_way a.machine

-- it holds exactly what that asks for where it has come, and without one nothing
pub record HoldsFileLocks {K : Type 0} (seat : ℕ) (k : KernelState K) : Type 0 where
  pub directory : held k.locks seat Directory ≡ directory_under (access_of (call_at k.seats seat))
  pub pages : (n : ℕ) → held k.locks seat (Page n) ≡ page_under (access_of (call_at k.seats seat)) n
