use Rattle.interleavings.proofs.GoLemmas.{step_together}
use Rattle.interleavings.proofs.concurrent_laws.calls_step_together.Goals as goal

pub returns : goal.returns
returns c = step_together
