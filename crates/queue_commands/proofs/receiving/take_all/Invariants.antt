use Rattle.queue_commands.specs.Receiving.{receive_call}
use Rattle.queue_commands.proofs.ReceiveLemmas.{TakesOn}
use Rattle.queue_commands.proofs.receiving.take_all.Given as goal

-- so many were taken
abbrev pub invariant-loop-taken : goal.invariant-loop-taken
invariant-loop-taken g l =
    (o : g.A.Answering.Origin) → TakesOn (receive_call l.moment l.receiving l.id) l.receiving.heads l.taken l.text
    (g.A.Answering.stands l.initial.answers o) (g.A.Answering.stands l.answers o)
