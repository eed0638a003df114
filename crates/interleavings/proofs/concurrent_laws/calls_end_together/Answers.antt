use Rattle.interleavings.proofs.RestLemmas.{end_together}
use Rattle.interleavings.proofs.concurrent_laws.calls_end_together.Goals as goal

pub returns : goal.returns
returns c = end_together
