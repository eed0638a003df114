use Rattle.hash_file.proofs.Contents.{contents_are_pairs}
use Rattle.hash_file.proofs.laws.what_a_file_holds_is_its_pairs.Goals as goal

pub returns : goal.returns
returns c = contents_are_pairs
