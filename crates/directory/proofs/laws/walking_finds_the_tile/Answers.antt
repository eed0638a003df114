use Rattle.directory.proofs.WalkLaws.{walk_finds_tile}
use Rattle.directory.proofs.laws.walking_finds_the_tile.Goals as goal

pub returns : goal.returns
returns G c = walk_finds_tile
