use Rattle.xsi_remove.proofs.LawLemmas.{begins_right}
use Rattle.xsi_remove.proofs.laws.a_sweep_begins_right.Goals as goal

pub returns : goal.returns
returns c = begins_right
