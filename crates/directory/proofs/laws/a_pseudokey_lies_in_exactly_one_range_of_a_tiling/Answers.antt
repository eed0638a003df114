use Rattle.directory.proofs.PartitionLaws.{tiles_once}
use Rattle.directory.proofs.laws.a_pseudokey_lies_in_exactly_one_range_of_a_tiling.Goals as goal

pub returns : goal.returns
returns G c = tiles_once
