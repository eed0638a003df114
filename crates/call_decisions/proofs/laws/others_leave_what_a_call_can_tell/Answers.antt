use Rattle.call_decisions.proofs.OtherLemmas.{leaves_others}
use Rattle.call_decisions.proofs.laws.others_leave_what_a_call_can_tell.Goals as goal

pub returns : goal.returns
returns c = leaves_others
