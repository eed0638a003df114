-- It is synced, or not.
use Rattle.std.proofs.Common.{ap, sym}
use Rattle.command_runs.specs.Commands.{told_of}
use Rattle.command_runs.proofs.commands.told_of.Goals as goal

pub returns-then-is_done : goal.returns-then-is_done
returns-then-is_done c = sym (ap told_of c.if-is_done.true)

pub returns-else-is_done : goal.returns-else-is_done
returns-else-is_done c = sym (ap told_of c.if-is_done.false)
