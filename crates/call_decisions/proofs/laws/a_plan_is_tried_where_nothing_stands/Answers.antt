use Rattle.call_decisions.proofs.SettleLemmas.{tries_rightly}
use Rattle.call_decisions.proofs.laws.a_plan_is_tried_where_nothing_stands.Goals as goal

pub returns : goal.returns
returns c = tries_rightly
