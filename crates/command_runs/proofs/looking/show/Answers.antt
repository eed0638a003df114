use Rattle.std.proofs.Common.{refl}
use Rattle.command_runs.proofs.looking.show.Goals as goal

pub returns-in-Queues : goal.returns-in-Queues
returns-in-Queues c = rw c.in-Queues.is (c.show_queues.ensures c.args.caller)

pub returns-in-Messages : goal.returns-in-Messages
returns-in-Messages c = rw c.in-Messages.is (c.show_messages.ensures c.args.caller)

-- a command is asked of the system on plain lists
pub returns-in-Ok : goal.returns-in-Ok
returns-in-Ok c = rw c.in-Command.is (
    let comes = c.in-Ok.ensures tt c.args.caller c.args.system (refl, refl) in (comes.system, comes.is))

pub returns-in-Err-Refused : goal.returns-in-Err-Refused
returns-in-Err-Refused c = rw c.in-Command.is (
    let comes = rw c.in-Err-Refused.field-0-is at
    (c.in-Err-Refused.ensures tt c.args.caller c.args.system (refl, refl)) in
    (comes.system, comes.is))
