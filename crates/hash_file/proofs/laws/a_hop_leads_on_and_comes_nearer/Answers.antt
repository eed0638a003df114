use Rattle.hash_file.proofs.Searches.{hops_lead_on}
use Rattle.hash_file.specs.Chain.{chain}
use Rattle.hash_file.proofs.laws.a_hop_leads_on_and_comes_nearer.Goals as goal

pub returns : goal.returns
returns c = λ hash s d n k h. hops_lead_on hash s d (chain s) n k h
