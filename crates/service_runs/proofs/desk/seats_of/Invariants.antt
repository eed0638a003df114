-- The seats of the desks so far.
use Rattle.std.specs.Prelude.{vec_capacity}
use Rattle.service_runs.proofs.PairLemmas.{IsGathering}
use Rattle.service_runs.proofs.desk.seats_of.Given as goal

abbrev pub invariant-loop-desk : goal.invariant-loop-desk
invariant-loop-desk g l =
    (goal.iterator-loop-desk g).can_next l.desk-iterator ×
    (goal.iterator-loop-desk g).is_finite l.desk-iterator ×
    IsGathering l.fn.desks.items l.desk-iterator.rest.items l.desk-iterator.rest.len l.seats.items
    (vec_capacity l.seats)
