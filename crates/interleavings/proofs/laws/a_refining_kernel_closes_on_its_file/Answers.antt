use Rattle.interleavings.proofs.OpenLemmas.{closes_led}
use Rattle.interleavings.proofs.laws.a_refining_kernel_closes_on_its_file.Goals as goal

pub returns : goal.returns
returns g c = closes_led c.calls_leave_the_file_at_rest.ensures _
