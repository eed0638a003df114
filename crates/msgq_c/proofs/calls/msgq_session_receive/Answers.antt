use Rattle.msgq_c.proofs.HandleLemmas.{of_answer, served}
use Rattle.msgq_c.proofs.calls.msgq_session_receive.Goals as goal

-- what is told is so of the message that the call took
pub returns : goal.returns
returns c =
    rw (← c.min-size.ensures) (rw (← c.call-call.ensures) (served _ _ _ _ _ _ c.in-Some.ensures c.code_of.ensures
    (of_answer _ _ c.tell_message.ensures)))
