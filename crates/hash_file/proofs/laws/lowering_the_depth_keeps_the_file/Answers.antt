use Rattle.hash_file.proofs.Doubling.{lower_depth_keeps}
use Rattle.hash_file.proofs.laws.lowering_the_depth_keeps_the_file.Goals as goal

pub returns : goal.returns
returns c = lower_depth_keeps
