use Rattle.workers.proofs.SeatLemmas.{Stays}
use Rattle.workers.proofs.held.Held.steps.Given as goal

abbrev pub invariant-loop-done : goal.invariant-loop-done
invariant-loop-done g l = Stays l.fn.pass l.pass
