use Rattle.xsi_control.proofs.stage.Stage.of_sought.Goals as goal
use Rattle.xsi_control.proofs.KeyedLemmas.{keyed_by}

-- the queue's key is known
pub returns-in-Found-clause-knows : goal.returns-in-Found-clause-knows
returns-in-Found-clause-knows c who s filed tells =
    keyed_by c.args.id s c.in-Found.queue filed (rw c.in-Found.is at tells)
