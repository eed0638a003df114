-- A page of the chain is the bucket that it was, and its records were tested.
use Rattle.std.proofs.Common.{subst}
use Rattle.std.specs.List.{All}
use Rattle.file_check.specs.Records.{AreRightOn, IsRightRecordIn}
use Rattle.file_check.specs.Words.{Bucket, file_in}
use Rattle.file_check.proofs.RecordLemmas.{kept, on_ok, same_ok}
use Rattle.file_check.proofs.gathered.gather_on.Goals as goal

pub returns-clause-right : goal.returns-clause-right
returns-clause-right g c = λ is.
    let hash = g.K.PseudoKey.of_key c.args.keys.now in
    let content = g.D.PageDevice.content c.args.device.now in
    let read = on_ok _ c.read_again.result _ c.in_ok-ok.ensures.value (c.read_again.ensures.ok is) in
    let known = c.bucket_in.ensures.ok c.args.layout.now content (c.requires is) read in
    let same = same_ok c.bucket_in.result _ _ c.in_ok-bucket.ensures.value known in
    let tested = on_ok _ c.test_bucket.result _ c.in_ok-ok-2.ensures.value c.test_bucket.ensures.ok in
    kept (AreRightOn c.args.layout.now hash (file_in c.args.layout.now content) c.args.page) c.add.result
    (subst (λ (b : Bucket). All (IsRightRecordIn c.args.layout.now hash b) b.records) same tested)
