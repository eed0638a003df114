use Rattle.msgq_c.proofs.PageLemmas.{noted_pages, noted_so}
use Rattle.msgq_c.proofs.saving.KeptUnsaved.note_saved.Goals as goal

pub returns-clause-pages : goal.returns-clause-pages
returns-clause-pages c = noted_pages c.end_save.result c.args.self.now c.end_save.new.self c.end_save.ensures

pub returns-clause-noted : goal.returns-clause-noted
returns-clause-noted c = noted_so c.end_save.result c.args.self.now c.end_save.new.self c.end_save.ensures
