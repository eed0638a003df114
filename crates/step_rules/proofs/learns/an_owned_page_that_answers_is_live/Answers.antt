use Rattle.step_rules.proofs.OwnLemmas.{owned_answer_is_live}
use Rattle.step_rules.proofs.learns.an_owned_page_that_answers_is_live.Goals as goal

pub returns : goal.returns
returns c = λ hash seat w page k sound leads owned between answers.
    owned_answer_is_live hash seat w page k sound owned between leads answers
