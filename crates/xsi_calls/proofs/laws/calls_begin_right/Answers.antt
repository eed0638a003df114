use Rattle.xsi_calls.proofs.LawLemmas.{begin_right}
use Rattle.xsi_calls.proofs.laws.calls_begin_right.Goals as goal

pub returns : goal.returns
returns c = begin_right
