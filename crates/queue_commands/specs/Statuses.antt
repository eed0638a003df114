-- The exit statuses. docs/SHELL.md, "Exit status".
use Rattle.std.specs.Prelude.{ℕ}
use Rattle.queue_model.specs.declared.errno.Errno.{Errno}
use Rattle.queue_model.specs.declared.errno.Errno.TheVariants.{E2BIG, EAGAIN, EEXIST, EIDRM, EINTR, EINVAL, ENOENT, ENOMSG, ENOSPC, EACCES, EPERM}
use Rattle.queue_commands.specs.declared.error.ExitStatus.{ExitStatus}
use Rattle.queue_commands.specs.declared.error.ExitStatus.TheVariants.{Done, Fault, WrongCommandLine, NotNow, Refused}

abbrev pub number_of : ExitStatus → ℕ
number_of Done = 0
number_of Fault = 1
number_of WrongCommandLine = 2
number_of NotNow = 3
number_of Refused = 4

-- there is no message, or no room; or any other refusal
abbrev pub status_of : Errno → ExitStatus
status_of E2BIG = Refused
status_of EAGAIN = NotNow
status_of EEXIST = Refused
status_of EIDRM = Refused
status_of EINTR = Refused
status_of EINVAL = Refused
status_of ENOENT = Refused
status_of ENOMSG = NotNow
status_of ENOSPC = Refused
status_of EACCES = Refused
status_of EPERM = Refused
