-- But for the page that was written, the file is as it was.
use Rattle.page_device.proofs.PagesLemmas.{first_pages_differ}
use Rattle.page_device.proofs.file.FileDevicePageDevice.write.Goals as goal

pub returns-in_default-clause-others : goal.returns-in_default-clause-others
returns-in_default-clause-others g c =
    first_pages_differ c.args.self.now.pages c.args.page (g.F.PageFile.page_at c.args.self.now.file)
    (g.F.PageFile.page_at c.store.new.self) c.store.ensures.others

pub returns-clause-others : goal.returns-clause-others
returns-clause-others g c =
    first_pages_differ c.args.self.now.pages c.args.page (g.F.PageFile.page_at c.args.self.now.file)
    (g.F.PageFile.page_at c.store.new.self) c.store.ensures.others
