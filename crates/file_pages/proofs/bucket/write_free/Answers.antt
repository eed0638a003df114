-- The page becomes free, before the first one.
use Rattle.std.proofs.Common.{subst}
use Rattle.bucket_page.specs.declared.page.PageKind.TheVariants as kinds
use Rattle.bucket_page.specs.Spelling.{Spells}
use Rattle.directory.specs.declared.header.Header.{Header}
use Rattle.buffer_pool.proofs.FormLemmas.{same_page}
use Rattle.file_pages.specs.Files.{store_of}
use Rattle.file_pages.proofs.HeaderLemmas.{nothing_changed}
use Rattle.file_pages.proofs.PageLemmas.{fails_to_store, page_stored}
use Rattle.file_pages.proofs.WriteLemmas.{writes_on}
use Rattle.file_pages.proofs.bucket.write_free.Goals as goal

pub store_page-requires-clause-spells : goal.store_page-requires-clause-spells
store_page-requires-clause-spells g c = same_page _ c.write_free.new.self c.write_free.ensures

pub returns-clause-writes : goal.returns-clause-writes
returns-clause-writes g c =
    writes_on _ c.args.pool.now c.read_header.new.pool c.store_page.new.pool c.in_ok-header.ensures.reads
    c.store_page.ensures.writes

pub returns-clause-ok : goal.returns-clause-ok
returns-clause-ok g c = λ honest.
    page_stored c.store_page.result c.args.pool.now c.read_header.new.pool c.store_page.new.pool _
    c.write_free.new.self (kinds.Free (store_of c.args.pool.now.images).header.first_free) honest
    c.in_ok-header.ensures.reads (subst (λ (h : Header). Spells (kinds.Free h.first_free) c.write_free.new.self)
    (c.in_ok-header.ensures.ok honest) c.write_free.ensures) c.store_page.ensures.ok

pub returns-clause-err : goal.returns-clause-err
returns-clause-err g c = λ honest.
    nothing_changed c.store_page.result c.args.pool.now c.read_header.new.pool c.store_page.new.pool honest
    c.in_ok-header.ensures.reads c.store_page.ensures.err

pub returns-clause-fault : goal.returns-clause-fault
returns-clause-fault g c = λ honest file there.
    fails_to_store c.store_page.result c.args.pool.now c.read_header.new.pool c.store_page.new.pool honest file
    c.in_ok-header.ensures.reads there c.store_page.ensures.fault
