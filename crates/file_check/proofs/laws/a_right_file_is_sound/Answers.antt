-- What a right file is.
use Rattle.file_check.proofs.RightLemmas.{right_sound}
use Rattle.file_check.proofs.laws.a_right_file_is_sound.Goals as goal

pub returns : goal.returns
returns c = λ l laid hash content ns right. right_sound l laid hash content ns right.structure right.records
