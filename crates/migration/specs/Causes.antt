-- Why a file does not become a new one (docs/FAULTS.md). Counts of failed transfers never fall.
use Rattle.std.specs.Prelude.{◌≡◌, ◌≤◌, ℕ, Result, IfErr, ⊤}
use Rattle.file_check.specs.declared.fault.CheckFault.TheVariants as checks
use Rattle.file_walk.specs.declared.fault.StructureFault.TheVariants as structures
use Rattle.page_device.specs.Device.{HasRisen}
use Rattle.migration.specs.declared.fault.CopyFault.{CopyFault}
use Rattle.migration.specs.declared.fault.CopyFault.TheVariants as copies
use Rattle.migration.specs.declared.fault.MakingFault.{MakingFault}
use Rattle.migration.specs.Fault.{IsOfTransfer}
use Rattle.migration.specs.declared.salvage_fault.SalvageFault.{SalvageFault}
use Rattle.migration.specs.declared.salvage_fault.SalvageFault.TheVariants as salvages

-- of the new device, from one count of its failed transfers to another
pub record HasMakingCause (old new : ℕ) (result : Result Unit MakingFault) : Type 0 where
  pub later : old ≤ new
  -- a transfer is told as failed only where one has
  pub failed : IfErr result (λ fault. IsOfTransfer fault → HasRisen old new)

-- a transfer is told as failed, of the old device only where it has failed, and so of the new one
abbrev pub MayNotCopy : (Older Newer : Type 0) → CopyFault → Type 0
MayNotCopy Older Newer (copies.Old fault) = fault ≡ checks.Structure structures.Device → Older
MayNotCopy Older Newer (copies.New fault) = IsOfTransfer fault → Newer

-- of both
pub record HasCopyCause {T : Type 0} (old old' new new' : ℕ) (result : Result T CopyFault) : Type 0 where
  pub older : old ≤ old'
  pub newer : new ≤ new'
  pub failed : IfErr result (MayNotCopy (HasRisen old old') (HasRisen new new'))

-- so of a file of which what can be read is salvaged; of the old device another fault is told of its pages
abbrev pub MayNotSalvage : (Older Newer : Type 0) → SalvageFault → Type 0
MayNotSalvage Older Newer salvages.Device = Older
MayNotSalvage Older Newer (salvages.New fault) = IsOfTransfer fault → Newer
MayNotSalvage Older Newer fault = ⊤

pub record HasSalvageCause {T : Type 0} (old old' new new' : ℕ) (result : Result T SalvageFault) : Type 0 where
  pub older : old ≤ old'
  pub newer : new ≤ new'
  pub failed : IfErr result (MayNotSalvage (HasRisen old old') (HasRisen new new'))
