use Rattle.std.proofs.Common.{◌≡◌}
use Rattle.workers.proofs.opening.spare.Given as goal

abbrev pub invariant-loop : goal.invariant-loop
invariant-loop g l = l.own ≡ l.fn.own
