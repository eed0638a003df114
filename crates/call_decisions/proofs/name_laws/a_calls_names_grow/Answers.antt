use Rattle.call_decisions.proofs.GrowLemmas.{names_grow}
use Rattle.call_decisions.proofs.name_laws.a_calls_names_grow.Goals as goal

pub returns : goal.returns
returns c = names_grow
