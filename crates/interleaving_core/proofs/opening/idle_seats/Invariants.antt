-- As many seats as were counted.
use Rattle.std.proofs.Common.{◌≡◌, None, replicate}
use Rattle.interleaving_core.proofs.opening.idle_seats.Given as goal

abbrev pub invariant-loop : goal.invariant-loop
invariant-loop l = l.all.items ≡ replicate l.counter None
