use Rattle.step_rules.proofs.KindLemmas.{kind_keeps}
use Rattle.step_rules.proofs.TurnLemmas.{turn_keeps, is_of_its_kind}
use Rattle.step_rules.proofs.laws.each_kind_leaves_what_others_know.Goals as goal

pub returns : goal.returns
returns c = record {
  kinds = λ kind hash seat old new sound does. kind_keeps kind hash seat old new sound does;
  turns = λ kind hash turn seat old new sound does. turn_keeps kind hash turn seat old new sound does;
  tied = λ kind hash turn seat old new does. is_of_its_kind hash seat old new turn kind does;
}
