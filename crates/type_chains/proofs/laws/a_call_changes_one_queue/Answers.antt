use Rattle.type_chains.proofs.OneQueue.{one_queue}
use Rattle.type_chains.proofs.laws.a_call_changes_one_queue.Goals as goal

pub returns : goal.returns
returns c = one_queue
