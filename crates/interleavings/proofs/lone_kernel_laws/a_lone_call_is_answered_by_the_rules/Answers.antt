use Rattle.interleavings.proofs.LoneKernelDriveLemmas.{answers_lone_calls}
use Rattle.interleavings.proofs.lone_kernel_laws.a_lone_call_is_answered_by_the_rules.Goals as goal

pub returns : goal.returns
returns g c = answers_lone_calls c.calls_begin_together.ensures c.calls_have_few_steps.ensures.few _
