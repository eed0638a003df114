use Rattle.directory.proofs.PositionLaws.{position_truncated}
use Rattle.directory.proofs.laws.a_truncated_pseudokey_lies_no_further_right.Goals as goal

pub returns : goal.returns
returns c = position_truncated
