use Rattle.directory.proofs.PartitionLaws.{partition_is_tiling}
use Rattle.directory.proofs.laws.ascending_and_covering_once_is_tiling.Goals as goal

pub returns : goal.returns
returns G c = partition_is_tiling
