use Rattle.interleavings.proofs.RenewLemmas.{withdraws_led}
use Rattle.interleavings.proofs.renewing.withdrawals_refine.Goals as goal

pub returns : goal.returns
returns g c = withdraws_led _
