use Rattle.queue_model.proofs.LowestLemmas.{SelectsLowestWithin-selected}
use Rattle.queue_model.proofs.laws.a_lowest_type_is_selected.Goals as goal

pub returns : goal.returns
returns c = SelectsLowestWithin-selected
