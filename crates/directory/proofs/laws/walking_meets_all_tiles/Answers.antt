use Rattle.directory.proofs.WalkLaws.{walk_meets_all}
use Rattle.directory.proofs.laws.walking_meets_all_tiles.Goals as goal

pub returns : goal.returns
returns G c = walk_meets_all
