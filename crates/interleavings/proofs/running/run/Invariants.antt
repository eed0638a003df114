-- The events so far were played.
use Rattle.std.specs.Vec.{vec_capacity}
use Rattle.std.specs.Vec.Iter.{into_iter_items, into_iter_len}
use Rattle.interleavings.proofs.RunLemmas.{HavePlayed}
use Rattle.interleavings.proofs.running.run.Given as goal

abbrev pub invariant-loop-event : goal.invariant-loop-event
invariant-loop-event g l =
    (goal.iterator-loop-event g).can_next l.event-iterator ×
    (goal.iterator-loop-event g).is_finite l.event-iterator ×
    HavePlayed (g.K.PseudoKey.of_key l.fn.kernel.keys) l.fn.events.items l.yielded
    (into_iter_items l.event-iterator) (into_iter_len l.event-iterator) l.outcomes.items (vec_capacity l.outcomes)
    l.fn.kernel l.kernel
