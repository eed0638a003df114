use Rattle.workers.proofs.CloseLemmas.{IsComparing}
use Rattle.workers.proofs.closing.compare_all.Given as goal

abbrev pub invariant-loop-place : goal.invariant-loop-place
invariant-loop-place g l = IsComparing l.fn.own l.own l.fn.seats.items l.seats.items l.place
