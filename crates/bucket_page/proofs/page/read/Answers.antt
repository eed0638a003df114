use Rattle.std.proofs.Common.{◌∙◌}
use Rattle.std.proofs.lemmas.Result.{err_from_is_err_and}
use Rattle.bucket_page.specs.Reading.{bucket_in, bucket_fault, page_in}
use Rattle.bucket_page.proofs.ReadingLaws.{refused, bucket_kind}
use Rattle.bucket_page.proofs.page.read.Goals as goal

-- the bucket's fault is the page's
pub returns-in_err-read_bucket-in-3 : goal.returns-in_err-read_bucket-in-3
returns-in_err-read_bucket-in-3 c =
    let bytes = c.args.bytes.now in
    let p = err_from_is_err_and c.from_residual.result c.from_residual.ensures.1 in
    rw (p.1, p.2) (refused (bucket_fault bytes) (bucket_in bytes) (page_in bytes) _ c.in_err-read_bucket-in-3.ensures
    ∙ bucket_kind bytes c.in-3.is)
