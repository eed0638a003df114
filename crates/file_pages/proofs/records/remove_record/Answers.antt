-- The bucket loses the record of the key.
use Rattle.std.proofs.Common.{◌≡◌, ◌∙◌, refl, ap, subst, IsSome}
use Rattle.bucket_page.specs.Changes.{IsBucketPage}
use Rattle.bucket_page.specs.Records.{lookup}
use Rattle.bucket_page.specs.Bucket.{Bucket}
use Rattle.hash_file.specs.Changes.{Remove}
use Rattle.file_pages.proofs.ReadLemmas.{handed_on}
use Rattle.file_pages.proofs.RecordLemmas.{bucket_there, bucket_was, keeps_file, record_written, there_within}
use Rattle.file_pages.proofs.WriteLemmas.{gives_back, only_writes, written_store}
use Rattle.file_pages.proofs.records.remove_record.Given as given
use Rattle.file_pages.proofs.records.remove_record.Goals as goal

pub returns-in_err-frame-clause-fault : goal.returns-in_err-frame-clause-fault
returns-in_err-frame-clause-fault g c = λ honest file there some.
    handed_on c.from_residual.result _ _ c.from_residual.ensures.1
    (c.in_err-frame.ensures.fault honest file (there_within c.args.pool.now.images c.args.page there))

-- a bucket that may be written passes the test
pub returns-then-not-has_record-clause-fault : goal.returns-then-not-has_record-clause-fault
returns-then-not-has_record-clause-fault g c = λ honest file there some.
    let bucket = bucket_there c.args.pool.now c.pin.new.pool _ c.in_ok-frame.frame c.image.result.now
    c.in_ok-frame.ensures.ok c.image.ensures honest file.file there in
    let was = bucket_was c.args.pool.now c.pin.new.pool _ c.in_ok-frame.frame c.image.result.now c.image.result.now
    c.in_ok-frame.ensures.ok c.image.ensures
    there.behind bucket honest in
    let records = ap (λ (b : Bucket). b.records) was in
    let passes = c.has_record.ensures.taken bucket (subst (λ ps. IsSome (lookup c.args.key.now ps)) records some) in
    let fails = c.if-not-has_record.true in
    absurd cc

-- the image that is changed is the one that was tested
same : (g : given.Over) (c : goal.After-unpin-2 g) → c.image.result.now ≡ c.image_mut.result.now
same g c = let one = c.image.ensures in let other = c.image_mut.ensures.value in cc

bucket : (g : given.Over) (c : goal.After-unpin-2 g) → IsBucketPage c.image_mut.result.now
bucket g c = subst IsBucketPage (same g c) (c.if-not-has_record.ensures.bucket refl)

pub returns-then-not-has_record-clause-writes : goal.returns-then-not-has_record-clause-writes
returns-then-not-has_record-clause-writes g c =
    gives_back c.args.pool.now c.pin.new.pool c.unpin.new.self _ c.in_ok-frame.frame c.requires.ready
    c.in_ok-frame.ensures.ok c.unpin.ensures

pub returns-clause-writes : goal.returns-clause-writes
returns-clause-writes g c =
    only_writes _ c.args.pool.now c.pin.new.pool c.unpin-2.new.self _ c.in_ok-frame.frame c.remove.new.self
    c.requires.ready c.in_ok-frame.ensures.ok
    (keeps_file c.args.pool.now c.pin.new.pool _ c.in_ok-frame.frame c.image_mut.result.now c.remove.new.self
    c.in_ok-frame.ensures.ok c.image_mut.ensures.value
    c.if-page-lt-ROOT_PAGE.false (bucket g c) (Remove c.args.key.now) c.remove.ensures) c.unpin-2.ensures

pub returns-clause-ok : goal.returns-clause-ok
returns-clause-ok g c = λ honest.
    written_store c.args.pool.now c.pin.new.pool c.unpin-2.new.self _ c.in_ok-frame.frame c.remove.new.self honest
    c.in_ok-frame.ensures.ok c.unpin-2.ensures
    ∙ record_written c.args.pool.now c.pin.new.pool _ c.in_ok-frame.frame c.image_mut.result.now c.remove.new.self
    c.in_ok-frame.ensures.ok c.image_mut.ensures.value
    c.if-page-lt-ROOT_PAGE.false (bucket g c) (Remove c.args.key.now) c.remove.ensures honest
