use Rattle.directory.proofs.ChangeLaws.{join_tiles}
use Rattle.directory.proofs.laws.joining_two_buddies_keeps_the_tiling.Goals as goal

pub returns : goal.returns
returns G c = join_tiles
