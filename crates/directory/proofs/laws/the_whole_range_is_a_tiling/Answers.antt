use Rattle.directory.proofs.TileLaws.{tiles_whole}
use Rattle.directory.proofs.laws.the_whole_range_is_a_tiling.Goals as goal

pub returns : goal.returns
returns G c = tiles_whole
