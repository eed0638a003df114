-- The numbers of faults. docs/FAULTS.md.
use Rattle.std.specs.Prelude.{ℕ}
use Rattle.numbers.specs.declared.faults.TheConstants.{BUSY, DEVICE, FAILED, NO_MEMORY, NO_ROOM, SESSION_FULL, TOO_FEW_FRAMES}
use Rattle.file_check.specs.Fault as check
use Rattle.file_check.specs.declared.fault.CheckFault.TheVariants as checks
use Rattle.file_pages.specs.Fault as file
use Rattle.file_walk.specs.declared.fault.StructureFault.TheVariants as structure
use Rattle.interleaving_core.specs.declared.fault.BeginFault.{BeginFault}
use Rattle.interleaving_core.specs.declared.fault.BeginFault.TheVariants as begins
use Rattle.interleaving_core.specs.declared.fault.CloseFault.{CloseFault}
use Rattle.interleaving_core.specs.declared.fault.CloseFault.TheVariants as closes
use Rattle.interleaving_core.specs.declared.fault.Failure.{Failure}
use Rattle.interleaving_core.specs.declared.fault.OpenFault.{OpenFault}
use Rattle.interleaving_core.specs.declared.fault.OpenFault.TheVariants as opens
use Rattle.interleaving_core.specs.declared.fault.StepFault.{StepFault}
use Rattle.interleaving_core.specs.declared.fault.StepFault.TheVariants as steps

abbrev pub open_number_of : OpenFault → ℕ
open_number_of opens.TooFewFrames = TOO_FEW_FRAMES
open_number_of opens.NoMemory = NO_MEMORY
open_number_of (opens.Wrong fault) = check.number_of fault

-- a transfer failed
abbrev pub device_failed : OpenFault
device_failed = opens.Wrong (checks.Structure structure.Device)

abbrev pub begin_number_of : BeginFault → ℕ
begin_number_of begins.Failed = FAILED
begin_number_of begins.Busy = BUSY
begin_number_of begins.SessionFull = SESSION_FULL
begin_number_of begins.NoMemory = NO_MEMORY

-- whatever fault of the file it was
abbrev pub step_number_of : StepFault → ℕ
step_number_of (steps.File fault) = FAILED
step_number_of steps.NoRoom = NO_ROOM

abbrev pub close_number_of : CloseFault → ℕ
close_number_of closes.Device = DEVICE
close_number_of closes.Failed = FAILED

abbrev pub failure_number_of : Failure → ℕ
failure_number_of failure = file.number_of failure.fault
