-- The desks so far.
use Rattle.std.specs.Prelude.{vec_capacity}
use Rattle.service_runs.proofs.PairLemmas.{IsPairing}
use Rattle.service_runs.proofs.desk.at_desks.Given as goal

abbrev pub invariant-loop-seat : goal.invariant-loop-seat
invariant-loop-seat g l =
    (goal.iterator-loop-seat g).can_next l.seat-iterator ×
    (goal.iterator-loop-seat g).is_finite l.seat-iterator ×
    IsPairing l.fn.seats.items l.seat-iterator.a.rest.items l.seat-iterator.a.rest.len l.fn.lines.items
    l.seat-iterator.b.rest.items l.seat-iterator.b.rest.len l.desks.items (vec_capacity l.desks)
