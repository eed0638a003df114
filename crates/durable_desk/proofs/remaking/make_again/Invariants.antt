-- The calls of the additions before the next were made.
use Rattle.durable_desk.specs.Opening.{MakesAgain}
use Rattle.durable_desk.proofs.remaking.make_again.Given as goal

abbrev pub invariant-loop-index : goal.invariant-loop-index
invariant-loop-index g l = MakesAgain g.P.PagePair.is_honest l.fn.device.calls l.index l.fn.desk l.desk
