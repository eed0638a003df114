use Rattle.interleavings.proofs.ScheduleLemmas.{events_led}
use Rattle.interleavings.proofs.laws.events_refine.Goals as goal

pub returns : goal.returns
returns g c = events_led _ c.begins_refine.ensures c.refusals_refine.ensures c.steps_refine.ensures
    c.drives_refine.ensures c.stops_refine.ensures
