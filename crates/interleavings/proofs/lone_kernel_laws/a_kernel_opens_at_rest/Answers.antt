use Rattle.interleavings.proofs.RestingLemmas.{opens_a_kernel}
use Rattle.interleavings.proofs.lone_kernel_laws.a_kernel_opens_at_rest.Goals as goal

pub returns : goal.returns
returns g c = opens_a_kernel _
