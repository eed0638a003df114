use Rattle.interleavings.proofs.WaitLemmas.{stops_a_waiting_call}
use Rattle.interleavings.proofs.lone_kernel_laws.a_call_that_waits_is_stopped.Goals as goal

pub returns : goal.returns
returns g c = stops_a_waiting_call c.calls_begin_together.ensures _
