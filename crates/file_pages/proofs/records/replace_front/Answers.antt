-- The value of the key gets the new bytes at its front.
use Rattle.std.proofs.Common.{◌≡◌, ◌∙◌, refl, sym, ap, subst, List, length, IsSome, IsTrue, ◌≤◌, ◌++◌, drop}
use Rattle.bucket_page.specs.Changes.{IsBucketPage, value_of_key}
use Rattle.bucket_page.specs.Records.{Pair, lookup, pair}
use Rattle.bucket_page.specs.Reading.{records_in}
use Rattle.bucket_page.specs.Bucket.{Bucket}
use Rattle.hash_file.specs.Changes.{RecordWrite, Replace, write_record}
use Rattle.hash_file.specs.Store.{records_at}
use Rattle.file_pages.specs.Files.{store_of}
use Rattle.file_pages.proofs.ReadLemmas.{handed_on}
use Rattle.file_pages.proofs.RecordLemmas.{bucket_there, bucket_was, keeps_file, record_written, there_within}
use Rattle.file_pages.proofs.WriteLemmas.{gives_back, only_writes, written_store}
use Rattle.file_pages.proofs.records.replace_front.Given as given
use Rattle.file_pages.proofs.records.replace_front.Goals as goal

pub returns-in_err-frame-clause-fault : goal.returns-in_err-frame-clause-fault
returns-in_err-frame-clause-fault g c = λ honest file there value long.
    handed_on c.from_residual.result _ _ c.from_residual.ensures.1
    (c.in_err-frame.ensures.fault honest file (there_within c.args.pool.now.images c.args.page there))

-- a bucket that may be written passes the test
pub returns-then-not-has_front-clause-fault : goal.returns-then-not-has_front-clause-fault
returns-then-not-has_front-clause-fault g c = λ honest file there value long.
    let bucket = bucket_there c.args.pool.now c.pin.new.pool _ c.in_ok-frame.frame c.image.result.now
    c.in_ok-frame.ensures.ok c.image.ensures honest file.file there in
    let was = bucket_was c.args.pool.now c.pin.new.pool _ c.in_ok-frame.frame c.image.result.now c.image.result.now
    c.in_ok-frame.ensures.ok c.image.ensures
    there.behind bucket honest in
    let records = ap (λ (b : Bucket). b.records) was in
    let passes = c.has_front.ensures.taken bucket
    (subst (λ (ps : List Pair). IsSome (lookup c.args.key.now ps)) records value)
    (subst (λ (ps : List Pair). length c.args.front.now ≤ length (value_of_key c.args.key.now ps)) records long) in
    let fails = c.if-not-has_front.true in
    absurd cc

-- the image that is changed is the one that was tested
same : (g : given.Over) (c : goal.After-unpin-2 g) → c.image.result.now ≡ c.image_mut.result.now
same g c = let one = c.image.ensures in let other = c.image_mut.ensures.value in cc

bucket : (g : given.Over) (c : goal.After-unpin-2 g) → IsBucketPage c.image_mut.result.now
bucket g c = subst IsBucketPage (same g c) (c.if-not-has_front.ensures.bucket refl)

-- the record with the new bytes at the front of one of these
abbrev written : (g : given.Over) (c : goal.After-unpin-2 g) → List Pair → RecordWrite
written g c ps = Replace (pair c.args.key.now (c.args.front.now ++ drop (length c.args.front.now)
    (value_of_key c.args.key.now ps)))

was : (g : given.Over) (c : goal.After-unpin-2 g) → IsTrue c.args.pool.now.honest
    → records_at (store_of c.args.pool.now.images) c.args.page ≡ records_in c.image_mut.result.now
was g c honest =
    ap (λ (b : Bucket). b.records)
    (bucket_was c.args.pool.now c.pin.new.pool _ c.in_ok-frame.frame c.image_mut.result.now c.replace_front.new.self
    c.in_ok-frame.ensures.ok c.image_mut.ensures.value
    c.if-page-lt-ROOT_PAGE.false (bucket g c) honest)

pub returns-then-not-has_front-clause-writes : goal.returns-then-not-has_front-clause-writes
returns-then-not-has_front-clause-writes g c =
    gives_back c.args.pool.now c.pin.new.pool c.unpin.new.self _ c.in_ok-frame.frame c.requires.ready
    c.in_ok-frame.ensures.ok c.unpin.ensures

pub returns-clause-writes : goal.returns-clause-writes
returns-clause-writes g c =
    only_writes _ c.args.pool.now c.pin.new.pool c.unpin-2.new.self _ c.in_ok-frame.frame c.replace_front.new.self
    c.requires.ready c.in_ok-frame.ensures.ok
    (keeps_file c.args.pool.now c.pin.new.pool _ c.in_ok-frame.frame c.image_mut.result.now c.replace_front.new.self
    c.in_ok-frame.ensures.ok c.image_mut.ensures.value
    c.if-page-lt-ROOT_PAGE.false (bucket g c) (written g c (records_in c.image_mut.result.now))
    c.replace_front.ensures) c.unpin-2.ensures

pub returns-clause-ok : goal.returns-clause-ok
returns-clause-ok g c = λ honest.
    written_store c.args.pool.now c.pin.new.pool c.unpin-2.new.self _ c.in_ok-frame.frame c.replace_front.new.self
    honest c.in_ok-frame.ensures.ok c.unpin-2.ensures
    ∙ record_written c.args.pool.now c.pin.new.pool _ c.in_ok-frame.frame c.image_mut.result.now
    c.replace_front.new.self c.in_ok-frame.ensures.ok c.image_mut.ensures.value
    c.if-page-lt-ROOT_PAGE.false (bucket g c) (written g c (records_in c.image_mut.result.now))
    c.replace_front.ensures honest
    ∙ ap (λ (ps : List Pair). write_record c.args.page (written g c ps) (store_of c.args.pool.now.images))
    (sym (was g c honest))
