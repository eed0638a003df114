use Rattle.step_rules.proofs.BuddyLemmas.{buddy_is_other_half}
use Rattle.step_rules.proofs.learns.a_buddy_is_the_other_half.Goals as goal

pub returns : goal.returns
returns c = λ hash w x y sound on deep found. buddy_is_other_half hash w x y sound on deep found
