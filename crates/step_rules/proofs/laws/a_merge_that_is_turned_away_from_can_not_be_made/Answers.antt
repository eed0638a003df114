use Rattle.step_rules.proofs.RoomLemmas.{turned_away_is_stuck}
use Rattle.step_rules.proofs.laws.a_merge_that_is_turned_away_from_can_not_be_made.Goals as goal

pub returns : goal.returns
returns c = λ hash key seat turn old new sound away is makes.
    turned_away_is_stuck hash key seat turn old new sound away is makes
