use Rattle.hash_file.proofs.Examples.{freed_page_taken_again}
use Rattle.hash_file.proofs.laws.a_freed_page_is_taken_again.Goals as goal

pub returns : goal.returns
returns c = freed_page_taken_again
