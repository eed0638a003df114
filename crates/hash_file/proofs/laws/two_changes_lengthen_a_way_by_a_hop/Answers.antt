use Rattle.hash_file.proofs.Hops.{one_hop_at_most}
use Rattle.hash_file.proofs.laws.two_changes_lengthen_a_way_by_a_hop.Goals as goal

pub returns : goal.returns
returns c = one_hop_at_most
