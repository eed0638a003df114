use Rattle.call_decisions.proofs.AskLemmas.{ask_under_names}
use Rattle.call_decisions.proofs.name_laws.a_call_asks_under_its_names.Goals as goal

pub returns : goal.returns
returns c = ask_under_names
