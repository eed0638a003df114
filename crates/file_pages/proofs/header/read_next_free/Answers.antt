-- The free page's image says the next one.
use Rattle.std.proofs.Common.{◌∙◌, List, ℕ, sym, subst}
use Rattle.bucket_page.specs.Reading.{page_in}
use Rattle.bucket_page.specs.Spelling.{Spells}
use Rattle.file_pages.specs.Files.{store_of}
use Rattle.file_pages.proofs.ReadLemmas.{image_was, never_fails, only_reads, page_was}
use Rattle.file_pages.proofs.HeaderLemmas.{next_is}
use Rattle.file_pages.proofs.header.read_next_free.Goals as goal

pub returns-clause-reads : goal.returns-clause-reads
returns-clause-reads g c =
    only_reads _ c.args.pool.now c.pin.new.pool c.unpin.new.self _ c.in_ok-frame.frame c.requires.ready
    c.in_ok-frame.ensures.ok c.unpin.ensures

pub returns-clause-ok : goal.returns-clause-ok
returns-clause-ok g c = λ honest.
    next_is (store_of c.args.pool.now.images) c.args.page c.next_free_of-next.result
    (page_was c.args.pool.now c.pin.new.pool _ c.in_ok-frame.frame c.image.result.now c.in_ok-frame.ensures.ok
    c.image.ensures honest c.if-page-lt-ROOT_PAGE.false) c.next_free_of-next.ensures.ok

pub returns-clause-fault : goal.returns-clause-fault
returns-clause-fault g c = λ honest file behind within free.
    let image = image_was c.args.pool.now c.pin.new.pool _ c.in_ok-frame.frame c.image.result.now
    c.in_ok-frame.ensures.ok c.image.ensures honest in
    never_fails c.next_free_of-next.result _ (λ failed. c.next_free_of-next.ensures.err failed
    (subst (λ (p : List ℕ). Spells (page_in p) p) image (file.file.spelled c.args.page behind within)) _
    (sym (page_was c.args.pool.now c.pin.new.pool _ c.in_ok-frame.frame c.image.result.now c.in_ok-frame.ensures.ok
    c.image.ensures honest behind) ∙ free))
