use Rattle.call_decisions.proofs.NamesLemmas.{take_in_order}
use Rattle.call_decisions.proofs.name_laws.a_call_takes_names_in_order.Goals as goal

pub returns : goal.returns
returns c = take_in_order
