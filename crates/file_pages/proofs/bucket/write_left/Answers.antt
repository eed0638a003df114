-- The left page becomes the bucket of both.
use Rattle.bucket_page.specs.declared.page.PageKind.TheVariants as kinds
use Rattle.bucket_page.specs.Dividing.{joined}
use Rattle.hash_file.specs.Store.{bucket_at}
use Rattle.file_pages.specs.Files.{store_of}
use Rattle.file_pages.proofs.PageLemmas.{page_stored}
use Rattle.file_pages.proofs.bucket.write_left.Goals as goal

pub returns-clause-ok : goal.returns-clause-ok
returns-clause-ok g c = λ honest.
    page_stored c.store_page.result c.args.pool.now c.read_joined.new.pool c.store_page.new.pool _ c.in_ok-both.both
    (kinds.Bucket (joined (bucket_at (store_of c.args.pool.now.images) c.args.left)
    (bucket_at (store_of c.args.pool.now.images) c.args.right))) honest
    c.in_ok-both.ensures.reads (c.in_ok-both.ensures.ok honest) c.store_page.ensures.ok
