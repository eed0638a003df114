use Rattle.interleavings.proofs.OpenLemmas.{begins_led}
use Rattle.interleavings.proofs.laws.begins_refine.Goals as goal

pub returns : goal.returns
returns g c = begins_led c.calls_begin_together.ensures _
