-- What holds between any two steps, wherever each seat is in its call.
use Rattle.std.specs.Prelude.{ℕ, ◌≡◌, ◌⊎◌}
use Rattle.std.specs.List.{Contains}
use Rattle.bucket_page.specs.declared.record_key.RecordKey.{RecordKey}
use Rattle.page_locks.specs.declared.lock.LockName.TheVariants.{Directory, Page}
use Rattle.page_locks.specs.Table.{Table, IsLawful}
use Rattle.page_locks.specs.Writers.{IsWriter, HasNoWriter}
use Rattle.hash_file.specs.Change.{Quiet, busy}
use Rattle.hash_file.specs.Sound.{IsSoundFile}
use Rattle.step_rules.specs.World.{World, IsHeld, IsReached}

-- the seat that may change the structure, and so a page that it holds
pub record IsWrittenBy (t : Table) (seat page : ℕ) : Type 0 where
  pub directory : IsWriter t seat Directory
  pub page_too : IsWriter t seat (Page page)

pub record IsSoundWorld (hash : RecordKey → ℕ) (w : World) : Type 0 where
  -- the file is sound in the phase of the change under way
  pub file : IsSoundFile hash w.store w.change
  -- what seats hold goes together
  pub lawful : IsLawful w.locks
  -- a change is under way only while a seat may write the directory
  pub led : HasNoWriter w.locks Directory → w.change ≡ Quiet
  -- a page whose records the phase speaks of is locked by that seat, where a search may come to it
  pub guarded : (page : ℕ) → Contains (busy w.change) page → IsReached w page →
      (seat : ℕ) × IsWrittenBy w.locks seat page
  -- a page that a seat holds leads somewhere, but for what the seat has freed that may write the directory
  pub standing : (seat page : ℕ) → IsHeld w.locks seat (Page page) →
      IsReached w page ⊎ IsWriter w.locks seat Directory
