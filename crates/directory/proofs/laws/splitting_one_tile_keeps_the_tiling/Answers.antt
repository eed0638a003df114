use Rattle.directory.proofs.ChangeLaws.{split_tiles}
use Rattle.directory.proofs.laws.splitting_one_tile_keeps_the_tiling.Goals as goal

pub returns : goal.returns
returns G c = split_tiles
