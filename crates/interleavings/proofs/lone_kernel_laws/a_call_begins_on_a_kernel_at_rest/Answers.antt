use Rattle.interleavings.proofs.RestingLemmas.{begins_on_a_kernel}
use Rattle.interleavings.proofs.lone_kernel_laws.a_call_begins_on_a_kernel_at_rest.Goals as goal

pub returns : goal.returns
returns g c = begins_on_a_kernel c.calls_begin_together.ensures c.calls_have_few_steps.ensures.few _
