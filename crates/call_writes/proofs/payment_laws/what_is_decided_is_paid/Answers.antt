use Rattle.call_writes.proofs.PaymentBeginLemmas.{undoes_its_trials}
use Rattle.call_writes.proofs.PaymentDecidedLemmas.{pays_what_is_decided}
use Rattle.call_writes.proofs.payment_laws.what_is_decided_is_paid.Goals as goal

pub returns-clause-decided : goal.returns-clause-decided
returns-clause-decided c = pays_what_is_decided

pub returns-clause-full : goal.returns-clause-full
returns-clause-full c = undoes_its_trials
