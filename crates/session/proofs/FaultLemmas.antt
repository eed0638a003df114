-- Each fault of an opening has a number of docs/FAULTS.md.
use Rattle.std.proofs.Common.{arith}
use Rattle.file_walk.specs.Fault as walk
use Rattle.file_walk.specs.declared.fault.StructureFault.{StructureFault}
use Rattle.file_walk.specs.declared.fault.StructureFault.TheVariants as structure
use Rattle.interleaving_core.specs.file_check.Fault as check
use Rattle.interleaving_core.specs.file_check.declared.fault.CheckFault.{CheckFault}
use Rattle.interleaving_core.specs.file_check.declared.fault.CheckFault.TheVariants as checks
use Rattle.interleaving_core.specs.declared.fault.OpenFault.TheVariants as opens
use Rattle.session.specs.Words.{IsFaultNumber, OpenFault, open_number_of}

structure_numbers : (fault : StructureFault) → IsFaultNumber (walk.number_of fault)
structure_numbers structure.Device = record { least = omega arith; most = omega arith }
structure_numbers (structure.BadDigest page) = record { least = omega arith; most = omega arith }
structure_numbers structure.PastEnd = record { least = omega arith; most = omega arith }
structure_numbers (structure.Malformed page reason) = record { least = omega arith; most = omega arith }
structure_numbers structure.BadHeader = record { least = omega arith; most = omega arith }
structure_numbers structure.BadVersion = record { least = omega arith; most = omega arith }
structure_numbers structure.NoMemory = record { least = omega arith; most = omega arith }
structure_numbers (structure.ChainBroken page) = record { least = omega arith; most = omega arith }
structure_numbers (structure.NotFree page) = record { least = omega arith; most = omega arith }
structure_numbers (structure.PageLost page) = record { least = omega arith; most = omega arith }
structure_numbers (structure.TooDeep page) = record { least = omega arith; most = omega arith }
structure_numbers (structure.WrongEntry entry) = record { least = omega arith; most = omega arith }
structure_numbers (structure.WrongCount depth) = record { least = omega arith; most = omega arith }

check_numbers : (fault : CheckFault) → IsFaultNumber (check.number_of fault)
check_numbers (checks.Structure fault) = structure_numbers fault
check_numbers (checks.Changed page) = record { least = omega arith; most = omega arith }
check_numbers (checks.Misplaced page kind queue number) = record { least = omega arith; most = omega arith }
check_numbers (checks.BadRecord page kind queue number) = record { least = omega arith; most = omega arith }
check_numbers checks.WrongCounter = record { least = omega arith; most = omega arith }
check_numbers (checks.WrongQueue queue) = record { least = omega arith; most = omega arith }
check_numbers (checks.Stray page kind queue number) = record { least = omega arith; most = omega arith }

pub fault_numbers : (fault : OpenFault) → IsFaultNumber (open_number_of fault)
fault_numbers opens.TooFewFrames = record { least = omega arith; most = omega arith }
fault_numbers opens.NoMemory = record { least = omega arith; most = omega arith }
fault_numbers (opens.Wrong fault) = check_numbers fault
