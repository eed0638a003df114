use Rattle.interleavings.proofs.RestLemmas.{begin_together}
use Rattle.interleavings.proofs.concurrent_laws.calls_begin_together.Goals as goal

pub returns : goal.returns
returns c = begin_together c.calls_begin_right.ensures
