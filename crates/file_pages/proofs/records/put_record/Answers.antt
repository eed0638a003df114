-- The bucket gains the record.
use Rattle.std.proofs.Common.{◌≡◌, ◌∙◌, refl, ap, subst, length, None, ◌≤◌, ◌+◌, arith}
use Rattle.bucket_page.specs.Changes.{IsBucketPage}
use Rattle.bucket_page.specs.Records.{lookup, pair, record_bytes}
use Rattle.bucket_page.specs.declared.layout.TheConstants.{RECORD_HEAD_BYTES, ROOM_BYTES}
use Rattle.bucket_page.specs.Bucket.{Bucket}
use Rattle.hash_file.specs.Changes.{Put}
use Rattle.file_pages.proofs.ReadLemmas.{handed_on}
use Rattle.file_pages.proofs.RecordLemmas.{bucket_there, bucket_was, keeps_file, record_written, there_within}
use Rattle.bucket_page.specs.Changes.{Changes, inserted}
use Rattle.bucket_page.specs.Reading.{records_in}
use Rattle.file_pages.proofs.RecordLemmas.{put_fits}
use Rattle.file_pages.proofs.WriteLemmas.{gives_back, only_writes, written_store}
use Rattle.file_pages.proofs.records.put_record.Given as given
use Rattle.file_pages.proofs.records.put_record.Goals as goal

pub returns-in_err-frame-clause-fault : goal.returns-in_err-frame-clause-fault
returns-in_err-frame-clause-fault g c = λ honest file there.
    handed_on c.from_residual.result _ _ c.from_residual.ensures.1
    (c.in_err-frame.ensures.fault honest file (there_within c.args.pool.now.images c.args.page there.there))

-- a bucket that may be written passes the test
pub returns-then-not-takes-clause-fault : goal.returns-then-not-takes-clause-fault
returns-then-not-takes-clause-fault g c = λ honest file there.
    let bucket = bucket_there c.args.pool.now c.pin.new.pool _ c.in_ok-frame.frame c.image.result.now
    c.in_ok-frame.ensures.ok c.image.ensures honest file.file there.there in
    let was = bucket_was c.args.pool.now c.pin.new.pool _ c.in_ok-frame.frame c.image.result.now c.image.result.now
    c.in_ok-frame.ensures.ok c.image.ensures
    there.there.behind bucket honest in
    let records = ap (λ (b : Bucket). b.records) was in
    let passes = c.takes.ensures.taken bucket (subst (λ ps. lookup c.args.key.now ps ≡ None) records there.absent)
    (subst (λ ps. length (record_bytes ps) + (RECORD_HEAD_BYTES + length c.args.value.now) ≤ ROOM_BYTES) records
    there.room) in
    let fails = c.if-not-takes.true in
    absurd cc

-- the image that is changed is the one that was tested
same : (g : given.Over) (c : goal.After-unpin-2 g) → c.image.result.now ≡ c.image_mut.result.now
same g c = let one = c.image.ensures in let other = c.image_mut.ensures.value in cc

bucket : (g : given.Over) (c : goal.After-unpin-2 g) → IsBucketPage c.image_mut.result.now
bucket g c = subst IsBucketPage (same g c) (c.if-not-takes.ensures.bucket refl)

-- it has room for the record
made : (g : given.Over) (c : goal.After-unpin-2 g)
    → Changes (inserted (pair c.args.key.now c.args.value.now)) c.image_mut.result.now c.put.new.self
made g c =
    let room = subst (λ old. length (record_bytes (records_in old)) + (RECORD_HEAD_BYTES + length c.args.value.now) ≤
    ROOM_BYTES)
    (same g c) (c.if-not-takes.ensures.room refl) in
    put_fits c.put.result c.put.ensures.ok (λ failed. let more =
    c.put.ensures.full.0 failed in absurd (omega (arith, room, more)))

pub returns-then-not-takes-clause-writes : goal.returns-then-not-takes-clause-writes
returns-then-not-takes-clause-writes g c =
    gives_back c.args.pool.now c.pin.new.pool c.unpin.new.self _ c.in_ok-frame.frame c.requires.ready
    c.in_ok-frame.ensures.ok c.unpin.ensures

pub returns-clause-writes : goal.returns-clause-writes
returns-clause-writes g c =
    only_writes _ c.args.pool.now c.pin.new.pool c.unpin-2.new.self _ c.in_ok-frame.frame c.put.new.self
    c.requires.ready c.in_ok-frame.ensures.ok
    (keeps_file c.args.pool.now c.pin.new.pool _ c.in_ok-frame.frame c.image_mut.result.now c.put.new.self
    c.in_ok-frame.ensures.ok c.image_mut.ensures.value
    c.if-page-lt-ROOT_PAGE.false (bucket g c) (Put (pair c.args.key.now c.args.value.now)) (made g c)) c.unpin-2.ensures

pub returns-clause-ok : goal.returns-clause-ok
returns-clause-ok g c = λ honest.
    written_store c.args.pool.now c.pin.new.pool c.unpin-2.new.self _ c.in_ok-frame.frame c.put.new.self honest
    c.in_ok-frame.ensures.ok c.unpin-2.ensures
    ∙ record_written c.args.pool.now c.pin.new.pool _ c.in_ok-frame.frame c.image_mut.result.now c.put.new.self
    c.in_ok-frame.ensures.ok c.image_mut.ensures.value
    c.if-page-lt-ROOT_PAGE.false (bucket g c) (Put (pair c.args.key.now c.args.value.now)) (made g c) honest
