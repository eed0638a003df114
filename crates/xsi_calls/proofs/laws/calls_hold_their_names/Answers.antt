use Rattle.xsi_calls.proofs.FewLemmas.{hold_their_names}
use Rattle.xsi_calls.proofs.laws.calls_hold_their_names.Goals as goal

pub returns : goal.returns
returns c = hold_their_names
