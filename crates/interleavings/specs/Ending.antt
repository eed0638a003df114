-- How a kernel is closed, or given up.
use Rattle.std.specs.Prelude.{ℕ, ◌≡◌, ◌≤◌, ◌↔◌, Bool, true, IsTrue, List, Option, Some, None}
use Rattle.page_device.specs.Device.{HasRisen}
use Rattle.interleaving_core.specs.Closing.{IsBusy}
use Rattle.interleaving_core.specs.declared.fault.CloseFault.TheVariants as closes
use Rattle.interleavings.specs.Words.{Entry, IsFlushedTo, KernelState}
use Rattle.interleavings.specs.declared.playing.EndFault.{EndFault}
use Rattle.interleavings.specs.declared.playing.EndFault.TheVariants.{Busy, Close}

-- with this fault, or none; and its journal and device then
pub record HasEnded {K : Type 0} (k : KernelState K) (fault : Option EndFault) (journal : List Entry)
    (content : List (List ℕ)) (honest is_synced : Bool) (faults : ℕ) : Type 0 where
  pub journal_is : journal ≡ k.journal
  pub same : honest ≡ k.pool.honest
  pub later : k.pool.faults ≤ faults
  -- it is flushed, and synced, only where no step has failed and no seat has a call
  pub flushed : IsTrue k.pool.honest → fault ≡ None → IsFlushedTo k.pool content
  pub synced : IsTrue k.pool.honest → fault ≡ None → IsTrue is_synced
  pub busy : (fault ≡ Some Busy) ↔ IsBusy k
  pub failed : (fault ≡ Some (Close closes.Failed)) ↔ (k.failed ≡ true)
  pub device : fault ≡ Some (Close closes.Device) → HasRisen k.pool.faults faults
