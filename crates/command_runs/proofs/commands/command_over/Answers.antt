-- The device is settled as it is lent.
use Rattle.command_runs.proofs.commands.command_over.Goals as goal

pub command_since-requires-clause-lent : goal.command_since-requires-clause-lent
command_since-requires-clause-lent g c = c.a_settled_device_is_lent.ensures
