use Rattle.step_rules.proofs.OnePageLemmas.{kind_changes_little}
use Rattle.step_rules.proofs.laws.a_step_changes_one_page_and_one_lock_at_most.Goals as goal

pub returns : goal.returns
returns c = λ kind hash seat old new does. kind_changes_little kind hash seat old new does
