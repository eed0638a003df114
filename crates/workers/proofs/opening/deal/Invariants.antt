use Rattle.std.specs.Prelude.{vec_capacity}
use Rattle.workers.proofs.OpenLemmas.{IsDealing}
use Rattle.workers.proofs.opening.deal.Given as goal

abbrev pub invariant-loop-place : goal.invariant-loop-place
invariant-loop-place g l = IsDealing l.seats l.place (vec_capacity l.made) l.own l.made.items
