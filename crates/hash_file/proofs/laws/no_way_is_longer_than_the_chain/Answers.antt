use Rattle.hash_file.proofs.Short.{ways_are_short}
use Rattle.hash_file.proofs.laws.no_way_is_longer_than_the_chain.Goals as goal

pub returns : goal.returns
returns c = ways_are_short
