-- The half of the image's bucket is that of the file's.
use Rattle.std.proofs.Common.{subst, ◌<◌}
use Rattle.bucket_page.specs.Bucket.{Bucket}
use Rattle.bucket_page.specs.Dividing.{lower_half}
use Rattle.directory.specs.declared.layout.TheConstants.{GREATEST_DEPTH}
use Rattle.file_pages.proofs.ReadLemmas.{handed_on, never_fails, only_reads}
use Rattle.file_pages.proofs.RecordLemmas.{bucket_there, bucket_was, there_within}
use Rattle.file_pages.proofs.PageLemmas.{half_is, half_spells}
use Rattle.file_pages.proofs.bucket.read_lower_half.Goals as goal

pub returns-in_err-frame-clause-fault : goal.returns-in_err-frame-clause-fault
returns-in_err-frame-clause-fault g c = λ honest file may.
    handed_on c.from_residual.result _ _ c.from_residual.ensures.1
    (c.in_err-frame.ensures.fault honest file (there_within c.args.pool.now.images c.args.page may.there))

pub returns-clause-reads : goal.returns-clause-reads
returns-clause-reads g c =
    only_reads _ c.args.pool.now c.pin.new.pool c.unpin.new.self _ c.in_ok-frame.frame c.requires.ready
    c.in_ok-frame.ensures.ok c.unpin.ensures

pub returns-clause-ok : goal.returns-clause-ok
returns-clause-ok g c = λ honest.
    half_is c.lower_half_of-half.result (lower_half (g.K.PseudoKey.of_key c.args.keys.now) c.args.next)
    c.lower_half_of-half.ensures.bucket
    (λ bucket. bucket_was c.args.pool.now c.pin.new.pool _ c.in_ok-frame.frame c.image.result.now c.image.result.now
    c.in_ok-frame.ensures.ok c.image.ensures c.if-page-lt-ROOT_PAGE.false bucket honest)
    c.lower_half_of-half.ensures.ok

pub returns-clause-spells : goal.returns-clause-spells
returns-clause-spells g c = half_spells c.lower_half_of-half.result _ c.lower_half_of-half.ensures.ok

pub returns-clause-fault : goal.returns-clause-fault
returns-clause-fault g c = λ honest file may.
    let bucket = bucket_there c.args.pool.now c.pin.new.pool _ c.in_ok-frame.frame c.image.result.now
    c.in_ok-frame.ensures.ok c.image.ensures honest file.file may.there in
    let was = bucket_was c.args.pool.now c.pin.new.pool _ c.in_ok-frame.frame c.image.result.now c.image.result.now
    c.in_ok-frame.ensures.ok c.image.ensures may.there.behind bucket honest in
    never_fails c.lower_half_of-half.result _ (λ failed. c.lower_half_of-half.ensures.err failed bucket
    (subst (λ (b : Bucket). b.depth < GREATEST_DEPTH) was may.shallow))
