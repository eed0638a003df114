use Rattle.hash_file.proofs.OffChain.{write_tombstone_keeps}
use Rattle.hash_file.proofs.laws.burying_the_right_page_keeps_the_file.Goals as goal

pub returns : goal.returns
returns c = write_tombstone_keeps
