use Rattle.interleavings.proofs.RestLemmas.{leave_at_rest}
use Rattle.interleavings.proofs.concurrent_laws.calls_leave_the_file_at_rest.Goals as goal

pub returns : goal.returns
returns c = leave_at_rest
