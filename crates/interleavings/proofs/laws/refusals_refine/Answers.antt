use Rattle.interleavings.proofs.OpenLemmas.{refuses_led}
use Rattle.interleavings.proofs.laws.refusals_refine.Goals as goal

pub returns : goal.returns
returns g c = refuses_led _
