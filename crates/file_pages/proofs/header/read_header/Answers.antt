-- The header's image says the header.
use Rattle.file_pages.proofs.ReadLemmas.{only_reads, image_was}
use Rattle.file_pages.proofs.StoreLemmas.{header_is}
use Rattle.file_pages.proofs.header.read_header.Goals as goal

pub returns-clause-reads : goal.returns-clause-reads
returns-clause-reads g c =
    only_reads _ c.args.pool.now c.pin.new.pool c.unpin.new.self _ c.in_ok-frame.frame c.requires.ready
    c.in_ok-frame.ensures.ok c.unpin.ensures

pub returns-clause-ok : goal.returns-clause-ok
returns-clause-ok g c = λ honest.
    let was = image_was c.args.pool.now c.pin.new.pool _ c.in_ok-frame.frame c.image.result.now
    c.in_ok-frame.ensures.ok c.image.ensures honest in
    rw (header_is c.args.pool.now.images, was) c.header_of-header.ensures.ok
