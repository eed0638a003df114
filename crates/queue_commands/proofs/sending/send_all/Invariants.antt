use Rattle.std.proofs.Common.{take}
use Rattle.queue_commands.specs.Sending.{send_call}
use Rattle.queue_commands.proofs.SendLemmas.{SendsOn}
use Rattle.queue_commands.proofs.sending.send_all.Given as goal

-- the bodies up to the next were sent
abbrev pub invariant-loop-body : goal.invariant-loop-body
invariant-loop-body g l =
    (o : g.A.Answering.Origin) → SendsOn (send_call l.moment l.sending.mtype l.id) l.sending.tells
    (take l.body-index l.body-items) l.text (g.A.Answering.stands l.initial.answers o)
    (g.A.Answering.stands l.answers o)
