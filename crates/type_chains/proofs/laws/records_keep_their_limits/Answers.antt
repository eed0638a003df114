use Rattle.type_chains.proofs.Limits.{in_range}
use Rattle.type_chains.proofs.laws.records_keep_their_limits.Goals as goal

pub returns : goal.returns
returns c = in_range
