-- What is read is spelled so, and what is spelled so is read.
use Rattle.buffer_pool.proofs.FormLemmas.{header_test}
use Rattle.buffer_pool.proofs.file_page.spells_header.Goals as goal

pub returns : goal.returns
returns c = header_test _ c.is_ok.result _ c.is_ok.ensures.value c.read_header.ensures.ok c.read_header.ensures.only
