use Rattle.stale_search.proofs.WalkLemmas.{search_walks_on, search_counts_few}
use Rattle.stale_search.proofs.laws.a_search_counts_few_hops.Goals as goal

pub returns-clause-walks : goal.returns-clause-walks
returns-clause-walks c = search_walks_on

pub returns-clause-few : goal.returns-clause-few
returns-clause-few c = search_counts_few
