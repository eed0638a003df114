use Rattle.call_writes.proofs.OwnLemmas.{owes_what_it_holds}
use Rattle.call_writes.proofs.payment_laws.a_payment_owes_what_is_held.Goals as goal

pub returns : goal.returns
returns c = owes_what_it_holds
