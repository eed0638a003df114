use Rattle.type_chains.proofs.Spelled.{spelled}
use Rattle.type_chains.proofs.laws.records_are_spelled.Goals as goal

pub returns : goal.returns
returns c = spelled
