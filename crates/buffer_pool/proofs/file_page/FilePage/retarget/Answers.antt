-- What was written spells a page of the directory.
use Rattle.buffer_pool.proofs.FormLemmas.{directory_well}
use Rattle.buffer_pool.proofs.file_page.FilePage.retarget.Goals as goal

pub invariant_of-self : goal.invariant_of-self
invariant_of-self c = directory_well _ _ c.retarget.ensures.directory
