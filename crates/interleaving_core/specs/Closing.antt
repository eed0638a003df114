-- What is left of a kernel that was closed, or was not.
use Rattle.std.specs.Prelude.{ℕ, ◌≡◌, ◌≤◌, Bool, true, false, IsTrue, List, Option, Some, None, Result, Ok, Err, ⊤}
use Rattle.std.specs.List.{list_any}
use Rattle.page_device.specs.Device.{HasRisen}
use Rattle.buffer_pool.specs.Pool.{KeepsSeals, PoolState, payloads_of}
use Rattle.interleaving_core.specs.Words.{Entry}
use Rattle.interleaving_core.specs.Active.{ActiveView}
use Rattle.interleaving_core.specs.Kernel.{KernelState}
use Rattle.interleaving_core.specs.declared.fault.CloseFault.{CloseFault}
use Rattle.interleaving_core.specs.declared.fault.CloseFault.TheVariants as closes
use Rattle.interleaving_core.specs.declared.closing.Closed.{Closed}
use Rattle.interleaving_core.specs.declared.closing.NotClosed.{NotClosed}
use Rattle.interleaving_core.specs.declared.closing.NotClosed.TheVariants.{Busy, Fault}

abbrev pub has_one : Option ActiveView → Bool
has_one None = false
has_one (Some a) = true

-- a seat has a call under way, and no step has failed
pub record IsBusy {K : Type 0} (s : KernelState K) : Type 0 where
  pub sound : s.failed ≡ false
  pub call : list_any has_one s.seats ≡ true

-- the journal comes back in each case
abbrev pub journal_in : {D K : Type 0} → Result (Closed D) (NotClosed D K) → List Entry
journal_in (Ok closed) = closed.journal.items
journal_in (Err (Busy kernel)) = kernel.journal
journal_in (Err (Fault closed fault)) = closed.journal.items

abbrev pub fault_in : {D K : Type 0} → Result (Closed D) (NotClosed D K) → Option CloseFault
fault_in (Ok closed) = None
fault_in (Err (Busy kernel)) = None
fault_in (Err (Fault closed fault)) = Some fault

abbrev pub is_busy : {D K : Type 0} → Result (Closed D) (NotClosed D K) → Bool
is_busy (Ok closed) = false
is_busy (Err (Busy kernel)) = true
is_busy (Err (Fault closed fault)) = false

-- what is so of the device that comes back
abbrev pub OnDevice : {D K : Type 0} → (D → Type 0) → Result (Closed D) (NotClosed D K) → Type 0
OnDevice P (Ok closed) = P closed.device
OnDevice P (Err (Busy kernel)) = ⊤
OnDevice P (Err (Fault closed fault)) = P closed.device

-- the device has the images of a pool, all of them written there
pub record IsFlushedTo (pool : PoolState) (content : List (List ℕ)) : Type 0 where
  pub images : payloads_of content ≡ pool.images
  pub seals : KeepsSeals pool.stored content

-- what the device of a kernel that ended with this fault, or with none, has when it comes back
pub record IsReleased {K : Type 0} (s : KernelState K) (fault : Option CloseFault) (content : List (List ℕ))
    (honest is_synced : Bool) (faults : ℕ) : Type 0 where
  -- it is as honest as it was
  pub same : honest ≡ s.pool.honest
  -- where none is told, an honest one was synced behind the last write
  pub synced : IsTrue s.pool.honest → fault ≡ None → IsTrue is_synced
  -- where a step had failed it has what the pool knew to be stored
  pub unwritten : s.failed ≡ true → content ≡ s.pool.stored
  pub later : s.pool.faults ≤ faults
  -- a failure of the device is told only where its count of faults rose
  pub cause : fault ≡ Some closes.Device → HasRisen s.pool.faults faults

-- what is so of the kernel that comes back
abbrev pub IfBusy : {D K : Type 0} → (KernelState K → Type 0) → Result (Closed D) (NotClosed D K) → Type 0
IfBusy P (Ok closed) = ⊤
IfBusy P (Err (Busy kernel)) = P kernel
IfBusy P (Err (Fault closed fault)) = ⊤
