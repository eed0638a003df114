-- The bucket in the page's image is the bucket on the page.
use Rattle.record_file.proofs.PageAheadLemmas.{ahead_if}
use Rattle.record_file.proofs.page_ahead.bucket_ahead.Goals as goal

pub returns : goal.returns
returns g c = ahead_if c.args.pool.now.images c.args.page c.in_ok-resident.field-0.now
    c.if-page-lt-ROOT_PAGE.false c.in_ok-resident.ensures c.bucket.result c.bucket.ensures.some
