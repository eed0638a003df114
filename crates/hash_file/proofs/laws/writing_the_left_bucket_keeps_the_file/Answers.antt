use Rattle.hash_file.proofs.Merging.{write_left_keeps}
use Rattle.hash_file.proofs.laws.writing_the_left_bucket_keeps_the_file.Goals as goal

pub returns : goal.returns
returns c = write_left_keeps
