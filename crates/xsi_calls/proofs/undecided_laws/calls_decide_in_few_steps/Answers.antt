use Rattle.xsi_calls.proofs.UndecidedLawLemmas.{few_steps}
use Rattle.xsi_calls.proofs.undecided_laws.calls_decide_in_few_steps.Goals as goal

pub returns : goal.returns
returns c = few_steps c.questions_have_few_steps.ensures
