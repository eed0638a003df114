-- The numbers of faults.
use Rattle.std.specs.Prelude.{ℕ}
use Rattle.numbers.specs.declared.faults.TheConstants.{BAD_DIGEST, DEVICE, DEVICE_FULL, NO_MEMORY, PAST_END}
use Rattle.page_device.specs.declared.fault.DeviceFault.{DeviceFault}
use Rattle.page_device.specs.declared.fault.DeviceFault.TheVariants.{Device, BadDigest, PastEnd, DeviceFull, NoMemory}

-- the number that a program prints for a fault
abbrev pub number_of : DeviceFault → ℕ
number_of Device = DEVICE
number_of BadDigest = BAD_DIGEST
number_of PastEnd = PAST_END
number_of DeviceFull = DEVICE_FULL
number_of NoMemory = NO_MEMORY
