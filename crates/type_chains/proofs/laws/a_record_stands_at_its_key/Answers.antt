use Rattle.type_chains.proofs.Cases.{stands_at_its_key}
use Rattle.type_chains.proofs.laws.a_record_stands_at_its_key.Goals as goal

pub returns : goal.returns
returns c = stands_at_its_key
