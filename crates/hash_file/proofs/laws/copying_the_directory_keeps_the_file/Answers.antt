use Rattle.hash_file.proofs.Doubling.{copy_directory_keeps}
use Rattle.hash_file.proofs.laws.copying_the_directory_keeps_the_file.Goals as goal

pub returns : goal.returns
returns c = copy_directory_keeps
