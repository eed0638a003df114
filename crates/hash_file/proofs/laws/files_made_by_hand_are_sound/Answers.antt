use Rattle.hash_file.proofs.SoundExamples.{are_sound}
use Rattle.hash_file.proofs.laws.files_made_by_hand_are_sound.Goals as goal

pub returns : goal.returns
returns c = are_sound
