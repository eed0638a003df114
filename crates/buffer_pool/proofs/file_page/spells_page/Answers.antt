-- What is read is spelled so, and what is spelled so is read.
use Rattle.buffer_pool.proofs.FormLemmas.{page_test}
use Rattle.buffer_pool.proofs.file_page.spells_page.Goals as goal

pub returns : goal.returns
returns c = page_test _ c.is_ok.result _ c.is_ok.ensures.value c.read_page.ensures.ok c.read_page.ensures.only
