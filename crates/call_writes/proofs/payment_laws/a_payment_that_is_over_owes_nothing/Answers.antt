use Rattle.call_writes.proofs.PaymentDecidedLemmas.{owes_nothing_at_end}
use Rattle.call_writes.proofs.payment_laws.a_payment_that_is_over_owes_nothing.Goals as goal

pub returns : goal.returns
returns c = owes_nothing_at_end
