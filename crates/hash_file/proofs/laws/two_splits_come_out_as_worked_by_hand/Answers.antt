use Rattle.hash_file.proofs.Examples.{two_splits}
use Rattle.hash_file.proofs.laws.two_splits_come_out_as_worked_by_hand.Goals as goal

pub returns : goal.returns
returns c = two_splits
