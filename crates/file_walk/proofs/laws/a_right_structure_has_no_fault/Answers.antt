use Rattle.file_walk.proofs.FaultLemmas.{right_has_no_fault}
use Rattle.file_walk.proofs.laws.a_right_structure_has_no_fault.Goals as goal

pub returns : goal.returns
returns c = right_has_no_fault
