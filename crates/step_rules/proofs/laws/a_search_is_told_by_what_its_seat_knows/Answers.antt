use Rattle.step_rules.proofs.WalkingLemmas.{own_steps_walk, others_steps_walk}
use Rattle.step_rules.proofs.laws.a_search_is_told_by_what_its_seat_knows.Goals as goal

pub returns : goal.returns
returns g c = record { own = own_steps_walk; others = others_steps_walk }
