use Rattle.hash_file.proofs.Splitting.{write_old_keeps}
use Rattle.hash_file.proofs.laws.writing_the_old_bucket_keeps_the_file.Goals as goal

pub returns : goal.returns
returns c = write_old_keeps
