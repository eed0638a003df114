-- The copy is the page's image.
use Rattle.std.proofs.Common.{◌∙◌, refl, sym}
use Rattle.buffer_pool.proofs.TransferLemmas.{not_ok}
use Rattle.file_pages.proofs.ReadLemmas.{only_reads, image_was}
use Rattle.file_pages.proofs.read.read_page.Goals as goal

pub returns-in_err-frame-clause-reads : goal.returns-in_err-frame-clause-reads
returns-in_err-frame-clause-reads g c =
    rw (not_ok c.from_residual.result c.from_residual.ensures.0) (c.in_err-frame.ensures.err refl)

pub returns-clause-reads : goal.returns-clause-reads
returns-clause-reads g c =
    only_reads _ c.args.pool.now c.pin.new.pool c.unpin.new.self _ c.in_ok-frame.frame c.requires.ready
    c.in_ok-frame.ensures.ok c.unpin.ensures

pub returns-clause-ok : goal.returns-clause-ok
returns-clause-ok g c = λ honest.
    c.copy-copy.ensures ∙ sym (image_was c.args.pool.now c.pin.new.pool _ c.in_ok-frame.frame c.image.result.now
    c.in_ok-frame.ensures.ok c.image.ensures honest)
