use Rattle.interleavings.proofs.FlushLemmas.{reads_fail}
use Rattle.interleavings.proofs.renewing.reads_fail_with_the_device.Goals as goal

pub returns : goal.returns
returns g c = reads_fail _
