use Rattle.xsi_control.proofs.laws.a_sweep_begins_with_all.Goals as goal
use Rattle.xsi_control.proofs.SweepLemmas.{begins_whole}

pub returns : goal.returns
returns c = begins_whole
