-- The numbers of faults, and which of them say nothing of the records.
use Rattle.std.specs.Prelude.{ℕ, ⊤, Result, IsErrOf}
use Rattle.numbers.specs.declared.faults.TheConstants.{DEVICE, MALFORMED, NO_MEMORY, NO_SYSTEM}
use Rattle.page_device.specs.Device.{HasRisen}
use Rattle.record_walk.specs.Words.{WalkFault}
use Rattle.record_walk.specs.declared.fault.WalkFault.TheVariants as faults

-- the number that a program prints for a fault
abbrev pub number_of : WalkFault → ℕ
number_of faults.Device = DEVICE
number_of (faults.Changed page) = MALFORMED
number_of faults.NoMemory = NO_MEMORY
number_of faults.WrongCounter = NO_SYSTEM
number_of (faults.WrongQueue queue) = NO_SYSTEM

-- a transfer failed, or a growth was refused: nothing is said of the records
abbrev pub IsOfMachine : WalkFault → Type 0
IsOfMachine faults.Device = ⊤
IsOfMachine faults.NoMemory = ⊤
IsOfMachine (faults.Changed page) = ⊥
IsOfMachine faults.WrongCounter = ⊥
IsOfMachine (faults.WrongQueue queue) = ⊥

-- `Device` comes only where the count of failed transfers rose or can't rise
abbrev pub IsCaused : {T : Type 0} → ℕ → ℕ → Result T WalkFault → Type 0
IsCaused old new result = IsErrOf result faults.Device → HasRisen old new
