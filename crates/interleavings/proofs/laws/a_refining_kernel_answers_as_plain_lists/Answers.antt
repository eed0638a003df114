use Rattle.interleavings.proofs.OpenLemmas.{as_plain_lists}
use Rattle.interleavings.proofs.laws.a_refining_kernel_answers_as_plain_lists.Goals as goal

pub returns : goal.returns
returns g c = as_plain_lists c.calls_leave_the_file_at_rest.ensures c.journals_are_first_in_first_out.ensures _
