use Rattle.hash_file.proofs.RightPages.{right_pages_lead}
use Rattle.hash_file.proofs.laws.the_right_page_leads_on.Goals as goal

pub returns : goal.returns
returns c = right_pages_lead
