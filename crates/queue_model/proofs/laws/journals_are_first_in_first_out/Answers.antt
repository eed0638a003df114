use Rattle.queue_model.proofs.OrderLemmas.{IsFifo-LeadsAlong}
use Rattle.queue_model.proofs.laws.journals_are_first_in_first_out.Goals as goal

pub returns : goal.returns
returns c = IsFifo-LeadsAlong
