use Rattle.std.proofs.Common.{◌∙◌}
use Rattle.bucket_page.proofs.ReadingLaws.{is_spelled}
use Rattle.bucket_page.proofs.PageLaws.{spelled_reads}
use Rattle.bucket_page.proofs.page.read_page.Goals as goal

-- what is read is spelled
pub returns-clause-ok : goal.returns-clause-ok
returns-clause-ok c = is_spelled c.args.payload.now _ c.told-payload c.fits-payload c.read.ensures

-- what is spelled is read
pub returns-clause-only : goal.returns-clause-only
returns-clause-only c page spells = c.read.ensures ∙ spelled_reads page c.args.payload.now spells
