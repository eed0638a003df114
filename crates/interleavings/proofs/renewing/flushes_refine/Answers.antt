use Rattle.interleavings.proofs.FlushLemmas.{flushes_led}
use Rattle.interleavings.proofs.renewing.flushes_refine.Goals as goal

pub returns : goal.returns
returns g c = flushes_led c.calls_begin_together.ensures _ c.a_refining_kernel_closes_on_its_file.ensures
