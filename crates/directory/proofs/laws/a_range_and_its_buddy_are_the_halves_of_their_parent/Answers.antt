use Rattle.directory.proofs.BuddyLaws.{lower_buddies, upper_buddies}
use Rattle.directory.proofs.laws.a_range_and_its_buddy_are_the_halves_of_their_parent.Goals as goal

pub returns-clause-lower : goal.returns-clause-lower
returns-clause-lower c r valid = lower_buddies r

pub returns-clause-upper : goal.returns-clause-upper
returns-clause-upper c = upper_buddies
