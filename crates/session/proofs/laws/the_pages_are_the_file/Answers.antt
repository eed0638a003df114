use Rattle.session.proofs.PageLemmas.{are_the_file}
use Rattle.session.proofs.laws.the_pages_are_the_file.Goals as goal

pub returns : goal.returns
returns c = are_the_file c.a_kernel_at_rest_closes_on_its_file.ensures
