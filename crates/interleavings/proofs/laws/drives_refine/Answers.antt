use Rattle.interleavings.proofs.ScheduleLemmas.{drives_led}
use Rattle.interleavings.proofs.laws.drives_refine.Goals as goal

pub returns : goal.returns
returns g c = drives_led c.calls_step_together.ensures c.calls_end_together.ensures c.calls_begin_together.ensures _
