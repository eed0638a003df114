use Rattle.hash_file.proofs.Examples.{merge_and_halving}
use Rattle.hash_file.proofs.laws.a_merge_comes_out_as_worked_by_hand.Goals as goal

pub returns : goal.returns
returns c = merge_and_halving
