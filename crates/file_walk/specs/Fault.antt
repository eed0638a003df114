-- The numbers of faults.
use Rattle.std.specs.Prelude.{ℕ}
use Rattle.numbers.specs.declared.faults.TheConstants.{BAD_DIGEST, BAD_HEADER, BAD_VERSION, CHAIN_BROKEN, DEVICE, ENTRY_WRONG, MALFORMED, NO_MEMORY, PAGE_LOST, PAST_END}
use Rattle.file_walk.specs.declared.fault.StructureFault.{StructureFault}
use Rattle.file_walk.specs.declared.fault.StructureFault.TheVariants as faults

-- the number that a program prints for a fault
abbrev pub number_of : StructureFault → ℕ
number_of faults.Device = DEVICE
number_of (faults.BadDigest page) = BAD_DIGEST
number_of faults.PastEnd = PAST_END
number_of (faults.Malformed page reason) = MALFORMED
number_of faults.BadHeader = BAD_HEADER
number_of faults.BadVersion = BAD_VERSION
number_of faults.NoMemory = NO_MEMORY
number_of (faults.ChainBroken page) = CHAIN_BROKEN
number_of (faults.NotFree page) = PAGE_LOST
number_of (faults.PageLost page) = PAGE_LOST
number_of (faults.TooDeep page) = ENTRY_WRONG
number_of (faults.WrongEntry entry) = ENTRY_WRONG
number_of (faults.WrongCount depth) = ENTRY_WRONG
