-- The numbers of faults, and which of them a call is told that does not go on. docs/FAULTS.md.
use Rattle.std.specs.Prelude.{ℕ}
use Rattle.numbers.specs.declared.faults.TheConstants.{FAILED, NO_MEMORY, NO_ROOM, SESSION_FULL}
use Rattle.interleaving_core.specs.declared.fault.StepFault.{StepFault}
use Rattle.interleaving_core.specs.declared.fault.StepFault.TheVariants as steps
use Rattle.workers.specs.declared.fault.Fault.{Fault}
use Rattle.workers.specs.declared.fault.Fault.TheVariants as calls

abbrev pub number_of : Fault → ℕ
number_of calls.NoRoom = NO_ROOM
number_of calls.NoMemory = NO_MEMORY
number_of calls.SessionFull = SESSION_FULL
number_of calls.Failed = FAILED

abbrev pub fault_of_step : StepFault → Fault
fault_of_step steps.NoRoom = calls.NoRoom
fault_of_step (steps.File fault) = calls.Failed
