use Rattle.call_decisions.proofs.WriteLemmas.{write_under_names}
use Rattle.call_decisions.proofs.name_laws.a_call_writes_under_its_names.Goals as goal

pub returns : goal.returns
returns c = write_under_names
