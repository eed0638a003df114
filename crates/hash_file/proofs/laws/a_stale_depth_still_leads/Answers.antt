use Rattle.hash_file.proofs.Searches.{stale_depths_lead}
use Rattle.hash_file.proofs.laws.a_stale_depth_still_leads.Goals as goal

pub returns : goal.returns
returns c = stale_depths_lead
