use Rattle.interleavings.proofs.RestingLemmas.{refuses_at_rest}
use Rattle.interleavings.proofs.lone_kernel_laws.a_refusal_leaves_a_kernel_at_rest.Goals as goal

pub returns : goal.returns
returns g c = refuses_at_rest _
