use Rattle.hash_file.proofs.RightPages.{files_are_well_formed}
use Rattle.hash_file.proofs.laws.a_sound_file_is_well_formed.Goals as goal

pub returns : goal.returns
returns c = files_are_well_formed
