use Rattle.interleavings.proofs.ToldLemmas.{steps_lead_and_do}
use Rattle.interleavings.proofs.laws.a_step_does_what_its_seat_is_told.Goals as goal

pub returns : goal.returns
returns g c = steps_lead_and_do c.calls_step_together.ensures c.calls_end_together.ensures
    c.calls_begin_together.ensures _
