use Rattle.directory.proofs.RangeLaws.{halves_meet, halves_make_up}
use Rattle.directory.proofs.laws.the_halves_of_a_range_make_it_up.Goals as goal

pub returns-clause-meet : goal.returns-clause-meet
returns-clause-meet c = halves_meet

pub returns-clause-covers : goal.returns-clause-covers
returns-clause-covers c = halves_make_up
