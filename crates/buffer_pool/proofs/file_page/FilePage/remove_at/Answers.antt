-- A changed bucket is a page.
use Rattle.buffer_pool.proofs.FormLemmas.{page_well}
use Rattle.buffer_pool.proofs.file_page.FilePage.remove_at.Goals as goal

pub invariant_of-self : goal.invariant_of-self
invariant_of-self c = page_well _ _ c.remove_at.ensures.ok
