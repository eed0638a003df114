-- The numbers of faults (docs/FAULTS.md).
use Rattle.std.specs.Prelude.{◌≡◌, ℕ}
use Rattle.numbers.specs.declared.faults.TheConstants.{FAILED, NO_MEMORY, NO_ROOM}
use Rattle.buffer_pool.specs.Fault as pool
use Rattle.buffer_pool.specs.declared.fault.PoolFault.TheVariants as pools
use Rattle.file_check.specs.Fault as check
use Rattle.file_check.specs.declared.fault.CheckFault.TheVariants as checks
use Rattle.file_walk.specs.declared.fault.StructureFault.TheVariants as structures
use Rattle.file_pages.specs.declared.fault.FileFault.{FileFault}
use Rattle.file_pages.specs.declared.fault.FileFault.TheVariants as file
use Rattle.page_device.specs.Fault as device
use Rattle.page_device.specs.declared.fault.DeviceFault.TheVariants as devices
use Rattle.migration.specs.declared.fault.MakingFault.{MakingFault}
use Rattle.migration.specs.declared.fault.MakingFault.TheVariants as makings
use Rattle.migration.specs.declared.fault.CopyFault.{CopyFault}
use Rattle.migration.specs.declared.fault.CopyFault.TheVariants as faults

-- the number that a program prints for what is wrong with a new file
abbrev pub making_number_of : MakingFault → ℕ
making_number_of (makings.Device fault) = device.number_of fault
making_number_of (makings.Pool fault) = pool.number_of fault
making_number_of makings.NoRoom = NO_ROOM
making_number_of makings.NoMemory = NO_MEMORY
making_number_of (makings.Wrong fault) = check.number_of fault
making_number_of makings.Failed = FAILED

-- and for a fault
abbrev pub number_of : CopyFault → ℕ
number_of (faults.Old fault) = check.number_of fault
number_of (faults.New fault) = making_number_of fault

-- the fault of a step on the pages
abbrev pub of_file : FileFault → MakingFault
of_file (file.Pool fault) = makings.Pool fault
of_file file.Failed = makings.Failed

-- a transfer of the new device is told as failed
abbrev pub IsOfTransfer : MakingFault → Type 0
IsOfTransfer (makings.Device fault) = fault ≡ devices.Device
IsOfTransfer (makings.Pool fault) = fault ≡ pools.Device devices.Device
IsOfTransfer makings.NoRoom = ⊥
IsOfTransfer makings.NoMemory = ⊥
IsOfTransfer (makings.Wrong fault) = fault ≡ checks.Structure structures.Device
IsOfTransfer makings.Failed = ⊥
