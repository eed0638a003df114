use Rattle.hash_file.proofs.New.{new_sound}
use Rattle.hash_file.proofs.laws.a_new_file_is_sound.Goals as goal

pub returns : goal.returns
returns c = new_sound
