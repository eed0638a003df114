use Rattle.step_rules.proofs.AnswerLemmas.{look_may_tell}
use Rattle.step_rules.proofs.OwnLemmas.{look_tells}
use Rattle.step_rules.proofs.learns.a_look_tells_what_the_file_holds.Goals as goal

pub returns : goal.returns
returns c = record {
  knows = λ hash seat w page key sound leads answers there. look_tells hash seat w page key sound leads answers there;
  tells = λ hash seat page key w sound leads there answers. look_may_tell hash seat page key w sound leads there
      answers;
}
