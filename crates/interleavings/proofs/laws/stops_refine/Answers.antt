use Rattle.interleavings.proofs.OpenLemmas.{stops_led}
use Rattle.interleavings.proofs.laws.stops_refine.Goals as goal

pub returns : goal.returns
returns g c = stops_led c.calls_stop_together.ensures _
