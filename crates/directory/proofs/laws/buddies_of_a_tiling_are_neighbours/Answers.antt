use Rattle.directory.proofs.ChangeLaws.{halves_neighbours}
use Rattle.directory.proofs.laws.buddies_of_a_tiling_are_neighbours.Goals as goal

pub returns : goal.returns
returns G c = halves_neighbours
