-- A changed bucket is a page, and one that is not changed is the page that it was.
use Rattle.buffer_pool.proofs.FormLemmas.{either_well}
use Rattle.buffer_pool.proofs.file_page.FilePage.put.Goals as goal

pub invariant_of-self : goal.invariant_of-self
invariant_of-self c = either_well c.put.result _ _ _ c.self.invariant c.put.ensures.ok c.put.ensures.err
