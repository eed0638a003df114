-- What a right file is.
use Rattle.file_check.proofs.RightLemmas.{right_has_no_fault}
use Rattle.file_check.proofs.laws.a_right_file_has_no_fault.Goals as goal

pub returns : goal.returns
returns c = right_has_no_fault
