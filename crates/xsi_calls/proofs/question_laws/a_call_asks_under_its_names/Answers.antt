use Rattle.xsi_calls.proofs.AskLemmas.{asks_under}
use Rattle.xsi_calls.proofs.question_laws.a_call_asks_under_its_names.Goals as goal

pub returns : goal.returns
returns c = asks_under
