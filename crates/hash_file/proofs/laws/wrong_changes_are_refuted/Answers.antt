use Rattle.hash_file.proofs.WrongChanges.{wrong_changes}
use Rattle.hash_file.proofs.laws.wrong_changes_are_refuted.Goals as goal

pub returns : goal.returns
returns c = wrong_changes
