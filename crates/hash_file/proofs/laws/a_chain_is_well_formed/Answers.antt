use Rattle.hash_file.proofs.Ties.{chain_well_formed}
use Rattle.hash_file.proofs.laws.a_chain_is_well_formed.Goals as goal

pub returns : goal.returns
returns c = chain_well_formed
