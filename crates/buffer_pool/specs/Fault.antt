-- The numbers of faults.
use Rattle.std.specs.Prelude.{ℕ}
use Rattle.page_device.specs.numbers.declared.faults.TheConstants.{MALFORMED, NO_MEMORY, TOO_FEW_FRAMES}
use Rattle.page_device.specs.Fault.{number_of as device_number_of}
use Rattle.buffer_pool.specs.declared.fault.PoolFault.{PoolFault}
use Rattle.buffer_pool.specs.declared.fault.PoolFault.TheVariants.{Device, Malformed, TooFewFrames, NoMemory}

-- the number that a program prints for a fault
abbrev pub number_of : PoolFault → ℕ
number_of (Device fault) = device_number_of fault
number_of TooFewFrames = TOO_FEW_FRAMES
number_of Malformed = MALFORMED
number_of NoMemory = NO_MEMORY
