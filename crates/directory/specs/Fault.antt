-- The numbers of faults.
use Rattle.std.specs.Prelude.{ℕ}
use Rattle.page_device.specs.numbers.declared.faults.TheConstants.{BAD_HEADER, BAD_VERSION}
use Rattle.directory.specs.declared.read.HeaderFault.{HeaderFault}
use Rattle.directory.specs.declared.read.HeaderFault.TheVariants.{BadHeader, BadVersion}

-- the number that a program prints for a fault
abbrev pub number_of : HeaderFault → ℕ
number_of BadHeader = BAD_HEADER
number_of BadVersion = BAD_VERSION
