-- The image of the entry's page says the entry.
use Rattle.std.proofs.Common.{arith, refl, ap, subst, ◌∙◌, sym}
use Rattle.buffer_pool.proofs.TransferLemmas.{not_ok}
use Rattle.directory.specs.Pages.{IsDirectoryPage}
use Rattle.file_pages.specs.Files.{image}
use Rattle.file_pages.proofs.ReadLemmas.{handed_on, image_was, never_fails, only_reads, same_slot}
use Rattle.file_pages.proofs.StoreLemmas.{entry_is}
use Rattle.file_pages.proofs.read.read_entry.Goals as goal

pub returns-in_err-frame-clause-reads : goal.returns-in_err-frame-clause-reads
returns-in_err-frame-clause-reads g c =
    rw (not_ok c.from_residual.result c.from_residual.ensures.0) (c.in_err-frame.ensures.err refl)

pub returns-in_err-frame-clause-fault : goal.returns-in_err-frame-clause-fault
returns-in_err-frame-clause-fault g c = λ honest file.
    let least = file.file.least in
    let last = c.page_of.ensures.last c.requires.within in
    handed_on c.from_residual.result _ _ c.from_residual.ensures.1
    (c.in_err-frame.ensures.fault honest file (omega (arith, least, last)))

pub returns-clause-reads : goal.returns-clause-reads
returns-clause-reads g c =
    only_reads _ c.args.pool.now c.pin.new.pool c.unpin.new.self _ c.in_ok-frame.frame c.requires.ready
    c.in_ok-frame.ensures.ok c.unpin.ensures

pub returns-clause-ok : goal.returns-clause-ok
returns-clause-ok g c = λ honest.
    let was = image_was c.args.pool.now c.pin.new.pool _ c.in_ok-frame.frame c.image.result.now
    c.in_ok-frame.ensures.ok c.image.ensures honest in
    same_slot c.entry_of-page.result c.entry_of-page.ensures.ok c.slot_of.ensures.value
    (sym was ∙ ap (image c.args.pool.now.images) c.page_of.ensures.value)
    (sym (entry_is c.args.pool.now.images c.args.index c.requires.within))

pub returns-clause-fault : goal.returns-clause-fault
returns-clause-fault g c = λ honest file.
    let was = image_was c.args.pool.now c.pin.new.pool _ c.in_ok-frame.frame c.image.result.now
    c.in_ok-frame.ensures.ok c.image.ensures honest in
    let last = c.page_of.ensures.last c.requires.within in
    never_fails c.entry_of-page.result _ (λ failed. c.entry_of-page.ensures.err failed (subst IsDirectoryPage was
    (file.file.directory c.page_of.result c.page_of.ensures.first last)))
