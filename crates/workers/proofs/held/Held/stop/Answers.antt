use Rattle.workers.proofs.StopLemmas.{change_by_stop, count_by_stop, has_stopped, kept_at_stop}
use Rattle.workers.proofs.held.Held.stop.Goals as goal

-- a stop is no call
pub tell_stop-requires-clause-count : goal.tell_stop-requires-clause-count
tell_stop-requires-clause-count g c = count_by_stop _ _ c.stop.ensures _ c.self.invariant.held.counted

pub tell_stop-requires-clause-change : goal.tell_stop-requires-clause-change
tell_stop-requires-clause-change g c =
    change_by_stop _ _ c.stop.ensures _ _ c.self.invariant.held.known c.requires

pub invariant_of-self : goal.invariant_of-self
invariant_of-self g c =
    kept_at_stop _ _ c.stop.ensures _ _ _ _ _ _ c.stops_refine.ensures c.self.invariant c.tell_stop.ensures.own
    (count_by_stop _ _ c.stop.ensures _ c.self.invariant.held.counted)

pub returns : goal.returns
returns g c =
    has_stopped _ _ c.stop.ensures _ _ _ c.self.invariant.held.known c.requires c.tell_stop.ensures.right
    c.tell_stop.ensures.seat c.self.invariant.held.marked
