use Rattle.hash_file.proofs.Chains.{chain_is}
use Rattle.hash_file.proofs.laws.the_chain_is_what_is_met.Goals as goal

pub returns : goal.returns
returns c = chain_is
