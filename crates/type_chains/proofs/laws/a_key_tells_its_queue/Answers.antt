use Rattle.type_chains.proofs.Owners.{tells_queue}
use Rattle.type_chains.proofs.laws.a_key_tells_its_queue.Goals as goal

pub returns : goal.returns
returns c = tells_queue
