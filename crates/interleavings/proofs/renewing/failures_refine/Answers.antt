use Rattle.interleavings.proofs.RenewLemmas.{fails_led}
use Rattle.interleavings.proofs.renewing.failures_refine.Goals as goal

pub returns : goal.returns
returns g c = fails_led _
