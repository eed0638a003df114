use Rattle.directory.proofs.PageLaws.{directory_spelled, spelled_page}
use Rattle.directory.proofs.page.write_directory.Goals as goal

pub returns-clause-ok : goal.returns-clause-ok
returns-clause-ok c = directory_spelled c.args.entries.now _ c.told-entries c.fits-entries c.write_slots.ensures

pub returns-clause-directory : goal.returns-clause-directory
returns-clause-directory c =
    spelled_page _ _ (directory_spelled c.args.entries.now _ c.told-entries c.fits-entries c.write_slots.ensures)
