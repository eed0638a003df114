use Rattle.hash_file.proofs.WaysIn.{no_way_in}
use Rattle.hash_file.proofs.laws.nothing_leads_to_a_drained_page.Goals as goal

pub returns : goal.returns
returns c = no_way_in
