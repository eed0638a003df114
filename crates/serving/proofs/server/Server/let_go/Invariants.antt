-- It has gone on so far.
use Rattle.serving.specs.Serving.{GoesOn}
use Rattle.serving.proofs.server.Server.let_go.Given as goal

abbrev pub invariant-loop : goal.invariant-loop
invariant-loop g l = GoesOn g.P.PagePair.is_honest g.P.PagePair.moment g.P.PagePair.left_since
    g.P.PagePair.may_leave l.fn.self l.self
