use Rattle.hash_file.proofs.OffChain.{write_new_keeps}
use Rattle.hash_file.proofs.laws.writing_the_new_bucket_keeps_the_file.Goals as goal

pub returns : goal.returns
returns c = write_new_keeps
