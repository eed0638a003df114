use Rattle.workers.proofs.SeatLemmas.{Stays}
use Rattle.workers.proofs.service.Service.advance.Given as goal

abbrev pub invariant-loop : goal.invariant-loop
invariant-loop g l = Stays l.fn.pass l.pass
