use Rattle.interleavings.proofs.LoneKernelDriveLemmas.{drives_by_the_rules}
use Rattle.interleavings.proofs.lone_kernel_laws.a_lone_drive_answers_by_the_rules.Goals as goal

pub returns : goal.returns
returns g c = drives_by_the_rules c.calls_begin_together.ensures c.calls_have_few_steps.ensures.few _
