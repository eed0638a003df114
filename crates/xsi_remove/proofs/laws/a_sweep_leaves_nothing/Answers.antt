use Rattle.xsi_remove.proofs.LawLemmas.{ends_swept}
use Rattle.xsi_remove.proofs.laws.a_sweep_leaves_nothing.Goals as goal

pub returns : goal.returns
returns c = ends_swept
