-- Why a call is not answered, and why a command is not done. docs/SHELL.md, "Exit status"; docs/FAULTS.md.
use Rattle.std.specs.Prelude.{ℕ, Option, None, Some, unwrap_or}
use Rattle.numbers.specs.declared.faults.TheConstants.{FAILED, NO_MEMORY, NO_ROOM}
use Rattle.page_device.specs.declared.fault.DeviceFault.{DeviceFault}
use Rattle.page_device.specs.declared.fault.DeviceFault.TheVariants as device
use Rattle.interleavings.specs.interleaving_core.Fault.{close_number_of, device_failed, open_number_of}
use Rattle.interleavings.specs.interleaving_core.declared.fault.OpenFault.{OpenFault}
use Rattle.interleavings.specs.interleaving_core.declared.fault.OpenFault.TheVariants as opens
use Rattle.queue_commands.specs.Statuses.{status_of}
use Rattle.queue_commands.specs.declared.error.AskError.{AskError}
use Rattle.queue_commands.specs.declared.error.AskError.TheVariants as asking
use Rattle.queue_commands.specs.declared.error.ExitStatus.{ExitStatus}
use Rattle.queue_commands.specs.declared.error.ExitStatus.TheVariants.{Fault}
use Rattle.session.specs.declared.unanswered.Unanswered.{Unanswered}
use Rattle.session.specs.declared.unanswered.Unanswered.TheVariants as calls
use Rattle.command_runs.specs.declared.error.CommandError.{CommandError}
use Rattle.command_runs.specs.declared.error.CommandError.TheVariants as errors

-- of a command that came to no text, and of its call that was not answered
abbrev pub of_asking : AskError → Option Unanswered → CommandError
of_asking (asking.Refused e) fault = errors.Refused e
of_asking asking.Unanswered fault = errors.Unanswered (unwrap_or fault calls.Failed)
of_asking asking.NoMemory fault = errors.NoMemory

-- of a file whose pages can't be read into memory: a transfer failed, or there is no memory for them
abbrev pub unread : DeviceFault → OpenFault
unread device.Device = device_failed
unread device.BadDigest = opens.NoMemory
unread device.PastEnd = opens.NoMemory
unread device.DeviceFull = opens.NoMemory
unread device.NoMemory = opens.NoMemory

-- ---- numbers and exit statuses

-- one that waits is none of a command
abbrev pub call_number_of : Unanswered → ℕ
call_number_of calls.Waits = FAILED
call_number_of calls.NoRoom = NO_ROOM
call_number_of calls.NoMemory = NO_MEMORY
call_number_of calls.Failed = FAILED

-- a refusal, and an output that refused the text, have none
abbrev pub number_of : CommandError → Option ℕ
number_of (errors.Unopened fault) = Some (open_number_of fault)
number_of (errors.Refused e) = None
number_of (errors.Unanswered fault) = Some (call_number_of fault)
number_of errors.NoMemory = Some NO_MEMORY
number_of (errors.Unprinted error) = None
number_of (errors.Unclosed fault) = Some (close_number_of fault)

abbrev pub exit_of : CommandError → ExitStatus
exit_of (errors.Unopened fault) = Fault
exit_of (errors.Refused e) = status_of e
exit_of (errors.Unanswered fault) = Fault
exit_of errors.NoMemory = Fault
exit_of (errors.Unprinted error) = Fault
exit_of (errors.Unclosed fault) = Fault
