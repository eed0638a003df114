use Rattle.directory.proofs.PositionLaws.{position_twice}
use Rattle.directory.proofs.laws.positions_are_one_to_one.Goals as goal

pub returns : goal.returns
returns c = position_twice
