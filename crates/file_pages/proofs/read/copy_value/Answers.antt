-- What is copied from the page's image is copied from the page.
use Rattle.std.proofs.Common.{List, ℕ, refl, ap, ◌∙◌, sym, subst}
use Rattle.bucket_page.specs.Reading.{page_in}
use Rattle.bucket_page.specs.Spelling.{Spells}
use Rattle.buffer_pool.proofs.TransferLemmas.{not_ok}
use Rattle.hash_file.specs.Store.{is_bucket, page_at}
use Rattle.file_pages.specs.Files.{store_of}
use Rattle.file_pages.proofs.ReadLemmas.{bucket_spelled, copied_of, handed_on, image_was, never_fails, only_reads, page_was}
use Rattle.file_pages.proofs.read.copy_value.Goals as goal

pub returns-in_err-frame-clause-reads : goal.returns-in_err-frame-clause-reads
returns-in_err-frame-clause-reads g c =
    rw (not_ok c.from_residual.result c.from_residual.ensures.0) (c.in_err-frame.ensures.err refl)

pub returns-in_err-frame-clause-fault : goal.returns-in_err-frame-clause-fault
returns-in_err-frame-clause-fault g c = λ honest file behind within bucket.
    handed_on c.from_residual.result _ _ c.from_residual.ensures.1
    (c.in_err-frame.ensures.fault honest file within)

pub returns-clause-reads : goal.returns-clause-reads
returns-clause-reads g c =
    only_reads _ c.args.pool.now c.pin.new.pool c.unpin.new.self _ c.in_ok-frame.frame c.requires.ready
    c.in_ok-frame.ensures.ok c.unpin.ensures

pub returns-clause-ok : goal.returns-clause-ok
returns-clause-ok g c = λ honest.
    let was = page_was c.args.pool.now c.pin.new.pool _ c.in_ok-frame.frame c.image.result.now
    c.in_ok-frame.ensures.ok c.image.ensures honest c.if-page-lt-ROOT_PAGE.false in
    copied_of c.copy_from-found.result c.image.result.now (page_at (store_of c.args.pool.now.images) c.args.page)
    c.args.key.now c.args.room.now c.copy_from-found.new.room was c.copy_from-found.ensures.bucket
    c.copy_from-found.ensures.ok

pub returns-clause-fault : goal.returns-clause-fault
returns-clause-fault g c = λ honest file behind within bucket.
    let image = image_was c.args.pool.now c.pin.new.pool _ c.in_ok-frame.frame c.image.result.now
    c.in_ok-frame.ensures.ok c.image.ensures honest in
    let was = page_was c.args.pool.now c.pin.new.pool _ c.in_ok-frame.frame c.image.result.now
    c.in_ok-frame.ensures.ok c.image.ensures honest behind in
    never_fails c.copy_from-found.result _
    (λ failed. c.copy_from-found.ensures.err failed (bucket_spelled c.image.result.now
    (subst (λ (p : List ℕ). Spells (page_in p) p) image (file.file.spelled c.args.page behind within))
    (ap is_bucket (sym was) ∙ bucket)))
