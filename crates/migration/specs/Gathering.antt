-- What is left by a check, and by the reading of pages, one after the other.
use Rattle.std.specs.Prelude.{◌≡◌, ◌⊎◌, ◌<◌, ◌≤◌, ℕ, Bool, true, false, List, Result, IfErr, IsTrue, ⊤}
use Rattle.directory.specs.declared.layout.TheConstants.{LAYOUT}
use Rattle.directory.specs.declared.read.HeaderFault.TheVariants as headers
use Rattle.file_check.specs.declared.fault.CheckFault.{CheckFault}
use Rattle.file_check.specs.declared.fault.CheckFault.TheVariants as checks
use Rattle.file_walk.specs.declared.fault.StructureFault.TheVariants as structures
use Rattle.file_walk.specs.Order.{IsRefusedIn}
use Rattle.page_device.specs.Device.{HasRisen, MOST_FAULTS}
use Rattle.migration.specs.declared.salvage_fault.SalvageFault.{SalvageFault}
use Rattle.migration.specs.declared.salvage_fault.SalvageFault.TheVariants as faults
use Rattle.migration.specs.Readable.{IsReadable}

-- a check ended for want of memory
abbrev pub wants_memory : CheckFault → Bool
wants_memory (checks.Structure structures.NoMemory) = true
wants_memory fault = false

-- a transfer has failed between these counts, or there is none to count it with
abbrev pub MayHaveFailed : ℕ → ℕ → Type 0
MayHaveFailed old new = (old < new) ⊎ (MOST_FAULTS ≤ new)

-- so many pages were read by now: where none could be, a transfer failed of each that can
abbrev pub MissesPages : List (List ℕ) → (read last old new : ℕ) → Type 0
MissesPages content read last old new =
    read ≡ 0 → (n : ℕ) → n < last → IsReadable content n → MayHaveFailed old new

-- what a page may tell: another version, of an honest device only where it is, or want of memory
abbrev pub MayNotAdd : Bool → List (List ℕ) → SalvageFault → Type 0
MayNotAdd honest content faults.BadVersion = IsTrue honest → IsRefusedIn LAYOUT content headers.BadVersion
MayNotAdd honest content faults.NoMemory = ⊤
MayNotAdd honest content fault = ⊥

-- that transfers failed is told only where one has; what is wrong with a system, or with a new file, is told later
abbrev pub MayNotRescue : Type 0 → SalvageFault → Type 0
MayNotRescue Failed faults.Device = Failed
MayNotRescue Failed (faults.New fault) = ⊥
MayNotRescue Failed fault = ⊤

pub record HasRescueCause {T : Type 0} (old new : ℕ) (result : Result T SalvageFault) : Type 0 where
  pub later : old ≤ new
  pub failed : IfErr result (MayNotRescue (HasRisen old new))
