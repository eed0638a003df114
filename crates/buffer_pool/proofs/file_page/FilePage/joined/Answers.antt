-- What was written spells a page.
use Rattle.buffer_pool.proofs.FormLemmas.{page_well}
use Rattle.buffer_pool.proofs.file_page.FilePage.joined.Goals as goal

pub invariant_of-result : goal.invariant_of-result
invariant_of-result c = page_well _ _ c.join.ensures
