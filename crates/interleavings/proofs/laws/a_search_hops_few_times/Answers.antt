use Rattle.interleavings.proofs.OpenLemmas.{counts_few}
use Rattle.interleavings.proofs.laws.a_search_hops_few_times.Goals as goal

pub returns : goal.returns
returns g c = counts_few _
