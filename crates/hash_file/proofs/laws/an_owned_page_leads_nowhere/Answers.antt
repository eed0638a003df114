use Rattle.hash_file.proofs.WaysIn.{owned_leads_nowhere}
use Rattle.hash_file.proofs.laws.an_owned_page_leads_nowhere.Goals as goal

pub returns : goal.returns
returns c = owned_leads_nowhere
