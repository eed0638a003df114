use Rattle.interleavings.proofs.OwedLemmas.{closed_opens}
use Rattle.interleavings.proofs.laws.a_closed_file_opens_on_its_system.Goals as goal

pub returns : goal.returns
returns g c = closed_opens c.the_file_of_a_system_has_no_fault.ensures _ c.an_opened_kernel_refines.ensures
    c.a_refining_kernel_closes_on_its_file.ensures
