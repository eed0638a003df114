use Rattle.interleavings.proofs.PayLemmas.{pays_on}
use Rattle.interleavings.proofs.seat_laws.a_payment_goes_on.Goals as goal

pub returns : goal.returns
returns c = pays_on
