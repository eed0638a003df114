-- The numbers of faults (docs/FAULTS.md).
use Rattle.std.specs.Prelude.{ℕ}
use Rattle.numbers.specs.declared.faults.TheConstants.{BAD_DIGEST, BAD_VERSION, DEVICE, FAILED, NO_MEMORY, PAST_END}
use Rattle.migration.specs.Fault.{making_number_of}
use Rattle.migration.specs.declared.salvage_fault.SalvageFault.{SalvageFault}
use Rattle.migration.specs.declared.salvage_fault.SalvageFault.TheVariants as faults

-- the number that a program prints
abbrev pub number_of : SalvageFault → ℕ
number_of faults.Device = DEVICE
number_of faults.NoPage = PAST_END
number_of faults.Unread = BAD_DIGEST
number_of faults.BadVersion = BAD_VERSION
number_of faults.NoMemory = NO_MEMORY
number_of faults.Unlawful = FAILED
number_of (faults.New fault) = making_number_of fault
