use Rattle.msgq_c.proofs.HandleLemmas.{served}
use Rattle.msgq_c.proofs.calls.msgq_session_set.Goals as goal

-- nothing is told of an answer but its number
pub returns : goal.returns
returns c = rw (← c.call-call.ensures) (served _ _ _ _ _ _ c.in-Some.ensures c.code_of.ensures (λ answer is. tt))
