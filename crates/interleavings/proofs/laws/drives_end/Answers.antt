use Rattle.interleavings.proofs.DriveLemmas.{drives_end}
use Rattle.interleavings.proofs.laws.drives_end.Goals as goal

pub returns : goal.returns
returns g c = drives_end c.calls_step_together.ensures c.calls_end_together.ensures c.calls_begin_together.ensures
    c.calls_have_few_steps.ensures.few c.calls_have_few_steps_left.ensures.few _
