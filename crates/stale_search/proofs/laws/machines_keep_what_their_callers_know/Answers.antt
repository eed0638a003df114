use Rattle.stale_search.proofs.CallerLemmas.{adders_keep}
use Rattle.stale_search.proofs.laws.machines_keep_what_their_callers_know.Goals as goal

pub returns : goal.returns
returns c = adders_keep
