use Rattle.interleavings.proofs.OpenLemmas.{opens_led}
use Rattle.interleavings.proofs.laws.an_opened_kernel_refines.Goals as goal

pub returns : goal.returns
returns g c = opens_led c.calls_rest_together.ensures _
