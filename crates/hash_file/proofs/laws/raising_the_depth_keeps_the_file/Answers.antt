use Rattle.hash_file.proofs.Doubling.{raise_depth_keeps}
use Rattle.hash_file.proofs.laws.raising_the_depth_keeps_the_file.Goals as goal

pub returns : goal.returns
returns c = raise_depth_keeps
