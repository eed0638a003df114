use Rattle.interleavings.proofs.ToldLemmas.{steps_led}
use Rattle.interleavings.proofs.laws.steps_refine.Goals as goal

pub returns : goal.returns
returns g c = steps_led c.calls_step_together.ensures c.calls_end_together.ensures c.calls_begin_together.ensures _
