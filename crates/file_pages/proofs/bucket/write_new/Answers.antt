-- The new page becomes the upper half.
use Rattle.bucket_page.specs.declared.page.PageKind.TheVariants as kinds
use Rattle.bucket_page.specs.Dividing.{upper_half}
use Rattle.hash_file.specs.Store.{bucket_at}
use Rattle.file_pages.specs.Files.{store_of}
use Rattle.file_pages.proofs.HeaderLemmas.{nothing_changed}
use Rattle.file_pages.proofs.PageLemmas.{fails_to_store, page_stored}
use Rattle.file_pages.proofs.WriteLemmas.{writes_on}
use Rattle.file_pages.proofs.bucket.write_new.Goals as goal

pub returns-clause-writes : goal.returns-clause-writes
returns-clause-writes g c =
    writes_on _ c.args.pool.now c.read_upper_half.new.pool c.store_page.new.pool c.in_ok-half.ensures.reads
    c.store_page.ensures.writes

pub returns-clause-ok : goal.returns-clause-ok
returns-clause-ok g c = λ honest.
    page_stored c.store_page.result c.args.pool.now c.read_upper_half.new.pool c.store_page.new.pool _
    c.in_ok-half.half (kinds.Bucket (upper_half (g.K.PseudoKey.of_key c.args.keys.now)
    (bucket_at (store_of c.args.pool.now.images) c.args.old))) honest
    c.in_ok-half.ensures.reads (c.in_ok-half.ensures.ok honest) c.store_page.ensures.ok

pub returns-clause-err : goal.returns-clause-err
returns-clause-err g c = λ honest.
    nothing_changed c.store_page.result c.args.pool.now c.read_upper_half.new.pool c.store_page.new.pool honest
    c.in_ok-half.ensures.reads c.store_page.ensures.err

pub returns-clause-fault : goal.returns-clause-fault
returns-clause-fault g c = λ honest file may there.
    fails_to_store c.store_page.result c.args.pool.now c.read_upper_half.new.pool c.store_page.new.pool honest file
    c.in_ok-half.ensures.reads there c.store_page.ensures.fault
