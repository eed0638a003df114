use Rattle.interleavings.proofs.LoneCallLemmas.{goes_on_alone}
use Rattle.interleavings.proofs.lone_kernel_laws.a_lone_call_goes_on.Goals as goal

pub returns : goal.returns
returns c = goes_on_alone
