use Rattle.call_writes.proofs.WriteDecidedLemmas.{all_stand, one_more_stands}
use Rattle.call_writes.proofs.write_laws.trials_stand_in_order.Goals as goal

pub returns-clause-next : goal.returns-clause-next
returns-clause-next c = one_more_stands

pub returns-clause-last : goal.returns-clause-last
returns-clause-last c = λ p place none. all_stand p.trials place none
