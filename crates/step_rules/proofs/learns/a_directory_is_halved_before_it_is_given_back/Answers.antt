use Rattle.step_rules.proofs.AnswerLemmas.{directory_is_halved}
use Rattle.step_rules.proofs.learns.a_directory_is_halved_before_it_is_given_back.Goals as goal

pub returns : goal.returns
returns c = λ hash seat old new r sound is alone. directory_is_halved hash seat old new r sound is alone
