use Rattle.call_writes.proofs.WriteLawLemmas.{owes_nothing}
use Rattle.call_writes.proofs.write_laws.what_is_due_is_owed.Goals as goal

pub returns-clause-end : goal.returns-clause-end
returns-clause-end c = owes_nothing
