use Rattle.file_walk.proofs.SoundLemmas.{structure_sound}
use Rattle.file_walk.proofs.laws.a_right_structure_is_sound.Goals as goal

pub returns : goal.returns
returns c = structure_sound
