use Rattle.hash_file.proofs.TakePage.{link_free_keeps}
use Rattle.hash_file.proofs.laws.linking_the_freed_page_ends_a_merge.Goals as goal

pub returns : goal.returns
returns c = link_free_keeps
