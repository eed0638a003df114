use Rattle.hash_file.proofs.Hops.{no_hop_more}
use Rattle.hash_file.proofs.laws.no_other_change_lengthens_a_way.Goals as goal

pub returns : goal.returns
returns c = no_hop_more
