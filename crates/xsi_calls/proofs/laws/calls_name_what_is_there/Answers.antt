use Rattle.xsi_calls.proofs.FewLemmas.{name_what_is_there}
use Rattle.xsi_calls.proofs.laws.calls_name_what_is_there.Goals as goal

pub returns : goal.returns
returns c = name_what_is_there
