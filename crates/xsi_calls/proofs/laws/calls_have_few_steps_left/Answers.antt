use Rattle.xsi_calls.proofs.FewLemmas.{have_few_left}
use Rattle.xsi_calls.proofs.laws.calls_have_few_steps_left.Goals as goal

pub returns-clause-few : goal.returns-clause-few
returns-clause-few c = have_few_left
