use Rattle.interleavings.proofs.FlushLemmas.{pages_led}
use Rattle.interleavings.proofs.renewing.pages_refine.Goals as goal

pub returns : goal.returns
returns g c = pages_led c.calls_begin_together.ensures _
