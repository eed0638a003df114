use Rattle.interleavings.proofs.RestingLemmas.{closes_a_kernel}
use Rattle.interleavings.proofs.lone_kernel_laws.a_kernel_at_rest_closes_on_its_file.Goals as goal

pub returns : goal.returns
returns g c = closes_a_kernel _
