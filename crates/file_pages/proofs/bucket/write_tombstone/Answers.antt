-- The page becomes a tombstone.
use Rattle.bucket_page.specs.declared.page.PageKind.TheVariants as kinds
use Rattle.buffer_pool.proofs.FormLemmas.{same_page}
use Rattle.file_pages.proofs.PageLemmas.{stored_as}
use Rattle.file_pages.proofs.bucket.write_tombstone.Goals as goal

pub store_page-requires-clause-spells : goal.store_page-requires-clause-spells
store_page-requires-clause-spells g c = same_page _ c.write_tombstone.new.self c.write_tombstone.ensures

pub returns-clause-ok : goal.returns-clause-ok
returns-clause-ok g c = λ honest.
    stored_as c.store_page.result c.args.pool.now c.store_page.new.pool _ c.write_tombstone.new.self
    (kinds.Tombstone c.args.left)
    c.write_tombstone.ensures (c.store_page.ensures.ok honest)
