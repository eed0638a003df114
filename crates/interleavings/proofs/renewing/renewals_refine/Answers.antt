use Rattle.interleavings.proofs.RenewLemmas.{renews_led}
use Rattle.interleavings.proofs.renewing.renewals_refine.Goals as goal

pub returns : goal.returns
returns g c = renews_led _
