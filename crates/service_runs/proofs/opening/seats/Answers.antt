use Rattle.std.proofs.Common.{◌+◌, sym, ◌∙◌, subst}
use Rattle.service_runs.proofs.PlanLemmas.{fresh_more, fresh_none}
use Rattle.service_runs.specs.Desks.{AreFresh}
use Rattle.service_runs.proofs.opening.seats.Goals as goal

pub loop-place-init : goal.loop-place-init
loop-place-init c =
    subst (AreFresh c.args.script.now.lines 0) (sym c.in_ok-seats.ensures.items) (fresh_none c.args.script.now.lines)

-- one seat more has its lines
pub loop-place-preserved : goal.loop-place-preserved
loop-place-preserved c =
    subst (AreFresh c.args.script.now.lines (c.loop-place.place + 1)) (sym c.in_ok-push.ensures.items)
    (fresh_more c.args.script.now.lines c.loop-place.place c.loop-place.seats.items c.in_ok-new.field-0
    c.loop-place.invariant
    record {
      seat_is = c.in_ok-new.ensures.seat;
      lines_are = c.in_ok-new.ensures.lines ∙ c.lines.ensures;
      unmade = c.in_ok-new.ensures.replies;
    })
