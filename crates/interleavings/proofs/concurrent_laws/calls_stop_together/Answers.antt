use Rattle.interleavings.proofs.RestLemmas.{stop_together}
use Rattle.interleavings.proofs.concurrent_laws.calls_stop_together.Goals as goal

pub returns : goal.returns
returns c = stop_together
