-- What was written spells a header.
use Rattle.buffer_pool.proofs.FormLemmas.{header_well}
use Rattle.buffer_pool.proofs.file_page.FilePage.write_header.Goals as goal

pub invariant_of-self : goal.invariant_of-self
invariant_of-self c = header_well _ _ c.write_header.ensures
