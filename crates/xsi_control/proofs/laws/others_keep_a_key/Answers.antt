use Rattle.xsi_control.proofs.laws.others_keep_a_key.Goals as goal
use Rattle.xsi_control.proofs.KeyedLemmas.{keeps_keyed}

pub returns : goal.returns
returns c = keeps_keyed
