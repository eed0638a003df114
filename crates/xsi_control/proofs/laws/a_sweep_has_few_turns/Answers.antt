use Rattle.xsi_control.proofs.laws.a_sweep_has_few_turns.Goals as goal
use Rattle.xsi_control.proofs.SweepLemmas.{few_turns}

pub returns : goal.returns
returns c = few_turns
