use Rattle.xsi_calls.proofs.QuestionPlanLemmas.{held_names}
use Rattle.xsi_calls.proofs.question_laws.a_call_writes_under_names_that_it_holds.Goals as goal

pub returns : goal.returns
returns c = held_names
