use Rattle.call_decisions.proofs.SettleLemmas.{settles}
use Rattle.call_decisions.proofs.settled.Settled.of.Goals as goal

pub returns-then-stopped-clause-means : goal.returns-then-stopped-clause-means
returns-then-stopped-clause-means c by call held bytes s p mark right =
    rw (c.in-PutOff.is, c.if-stopped.true) at (settles by call held s p bytes c.args.stopped c.args.decision mark right)

pub returns-in-Answers-clause-means : goal.returns-in-Answers-clause-means
returns-in-Answers-clause-means c by call held bytes s p mark right =
    rw c.in-Answers.is at (settles by call held s p bytes c.args.stopped c.args.decision mark right)

pub returns-in-Sweeps-clause-means : goal.returns-in-Sweeps-clause-means
returns-in-Sweeps-clause-means c by call held bytes s p mark right =
    rw c.in-Sweeps.is at (settles by call held s p bytes c.args.stopped c.args.decision mark right)
