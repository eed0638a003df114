use Rattle.directory.proofs.RangeLaws.{range_is_interval}
use Rattle.directory.proofs.laws.a_range_is_an_interval_of_positions.Goals as goal

pub returns : goal.returns
returns c = range_is_interval
