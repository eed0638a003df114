-- What the file of a system is.
use Rattle.file_check.proofs.WholeLemmas.{file_has_no_fault}
use Rattle.file_check.proofs.laws.the_file_of_a_system_has_no_fault.Goals as goal

pub returns : goal.returns
returns c = file_has_no_fault
