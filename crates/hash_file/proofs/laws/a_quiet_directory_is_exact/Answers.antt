use Rattle.hash_file.proofs.Ties.{quiet_exact}
use Rattle.hash_file.proofs.laws.a_quiet_directory_is_exact.Goals as goal

pub returns : goal.returns
returns c = quiet_exact
