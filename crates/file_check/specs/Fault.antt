-- The numbers of faults.
use Rattle.std.specs.Prelude.{ℕ}
use Rattle.numbers.specs.declared.faults.TheConstants.{BAD_RECORD, MALFORMED, NO_SYSTEM, STRAY}
use Rattle.file_walk.specs.Fault as walk
use Rattle.file_walk.specs.Order.{IsOfMachine}
use Rattle.file_walk.specs.declared.fault.StructureFault.TheVariants as structure
use Rattle.record_walk.specs.declared.fault.WalkFault.{WalkFault}
use Rattle.record_walk.specs.declared.fault.WalkFault.TheVariants as walked
use Rattle.file_check.specs.Words.{CheckFault}
use Rattle.file_check.specs.declared.fault.CheckFault.TheVariants as faults

-- the number that a program prints for a fault
abbrev pub number_of : CheckFault → ℕ
number_of (faults.Structure fault) = walk.number_of fault
number_of (faults.Changed page) = MALFORMED
number_of (faults.Misplaced page kind queue number) = STRAY
number_of (faults.BadRecord page kind queue number) = BAD_RECORD
number_of faults.WrongCounter = NO_SYSTEM
number_of (faults.WrongQueue queue) = NO_SYSTEM
number_of (faults.Stray page kind queue number) = STRAY

-- the fault of a walk
abbrev pub of_walk : WalkFault → CheckFault
of_walk walked.Device = faults.Structure structure.Device
of_walk walked.NoMemory = faults.Structure structure.NoMemory
of_walk (walked.Changed page) = faults.Changed page
of_walk walked.WrongCounter = faults.WrongCounter
of_walk (walked.WrongQueue queue) = faults.WrongQueue queue

-- a transfer failed, or a growth was refused: nothing is said of the file
abbrev pub IsOfMachineToo : CheckFault → Type 0
IsOfMachineToo (faults.Structure fault) = IsOfMachine fault
IsOfMachineToo (faults.Changed page) = ⊥
IsOfMachineToo (faults.Misplaced page kind queue number) = ⊥
IsOfMachineToo (faults.BadRecord page kind queue number) = ⊥
IsOfMachineToo faults.WrongCounter = ⊥
IsOfMachineToo (faults.WrongQueue queue) = ⊥
IsOfMachineToo (faults.Stray page kind queue number) = ⊥
