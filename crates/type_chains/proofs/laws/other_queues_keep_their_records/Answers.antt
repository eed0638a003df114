use Rattle.type_chains.proofs.Local.{agree_elsewhere}
use Rattle.type_chains.proofs.laws.other_queues_keep_their_records.Goals as goal

pub returns : goal.returns
returns c = agree_elsewhere
