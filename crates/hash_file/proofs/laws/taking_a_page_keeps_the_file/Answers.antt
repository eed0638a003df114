use Rattle.hash_file.proofs.TakePage.{take_page_keeps}
use Rattle.hash_file.proofs.laws.taking_a_page_keeps_the_file.Goals as goal

pub returns : goal.returns
returns c = take_page_keeps
