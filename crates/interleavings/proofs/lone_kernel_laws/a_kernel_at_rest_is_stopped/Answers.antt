use Rattle.interleavings.proofs.RestingLemmas.{stops_a_kernel}
use Rattle.interleavings.proofs.lone_kernel_laws.a_kernel_at_rest_is_stopped.Goals as goal

pub returns : goal.returns
returns g c = stops_a_kernel _
