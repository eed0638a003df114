use Rattle.interleavings.proofs.RestLemmas.{rest_together}
use Rattle.interleavings.proofs.concurrent_laws.calls_rest_together.Goals as goal

pub returns : goal.returns
returns c = rest_together
