-- The desks that make their lines so far, and those that have come back.
use Rattle.std.specs.Prelude.{◌≡◌, vec_capacity}
use Rattle.service_runs.specs.Desks.{DeskView, IsMadeOf}
use Rattle.service_runs.proofs.WorkLemmas.{IsLeading}
use Rattle.service_runs.proofs.crew.make_in.Given as goal

abbrev pub invariant-loop-desk : goal.invariant-loop-desk
invariant-loop-desk g l =
    (goal.iterator-loop-desk g).can_next l.desk-iterator ×
    (goal.iterator-loop-desk g).is_finite l.desk-iterator ×
    IsLeading (λ (d w : DeskView). w ≡ d) l.fn.desks.items l.desk-iterator.rest.items l.desk-iterator.rest.len
    l.works.items (vec_capacity l.works)

abbrev pub invariant-loop-work : goal.invariant-loop-work
invariant-loop-work g l =
    (goal.iterator-loop-work g).can_next l.work-iterator ×
    (goal.iterator-loop-work g).is_finite l.work-iterator ×
    IsLeading (IsMadeOf g.N.Base.origin) l.fn.desks.items l.work-iterator.rest.items
    l.work-iterator.rest.len l.made.items
    (vec_capacity l.made)
