-- A page of the chain is the bucket that it was.
use Rattle.std.proofs.Common.{OnOk, inl, subst}
use Rattle.std.specs.List.{All}
use Rattle.std.proofs.lemmas.Result.{err_from_is_err_and}
use Rattle.file_check.specs.Records.{IsRightRecordIn}
use Rattle.file_check.specs.Words.{Bucket}
use Rattle.file_check.proofs.RecordLemmas.{bucket_is, is_read, wrong_in, not_past}
use Rattle.file_check.proofs.bucket.test_page.Goals as goal

pub returns-in_err-read_again-clause-err : goal.returns-in_err-read_again-clause-err
returns-in_err-read_again-clause-err g c = λ is.
    let p = err_from_is_err_and c.from_residual.result
    c.from_residual.ensures.1 in
    rw (p.1, p.2) (inl (not_past _ _ _ _ (c.requires is) c.in_err-read_again.ensures.err))

pub returns-in_err-bucket_in-clause-err : goal.returns-in_err-bucket_in-clause-err
returns-in_err-bucket_in-clause-err g c = λ is.
    absurd (is_read _ _ (c.in_err-bucket_in.ensures.ok _ _ (c.requires is) (c.in_ok-read_again.ensures.ok is)))

pub returns-clause-ok : goal.returns-clause-ok
returns-clause-ok g c = λ is.
    let same = bucket_is _ _ (c.in_ok-bucket_in.ensures.ok _ _ (c.requires is) (c.in_ok-read_again.ensures.ok is)) in
    subst (λ (b : Bucket). OnOk c.test_bucket.result
    (All (IsRightRecordIn c.args.layout.now (g.K.PseudoKey.of_key c.args.keys.now) b) b.records)) same
    c.test_bucket.ensures.ok

pub returns-clause-err : goal.returns-clause-err
returns-clause-err g c = λ is.
    let same = bucket_is _ _ (c.in_ok-bucket_in.ensures.ok _ _ (c.requires is) (c.in_ok-read_again.ensures.ok is)) in
    wrong_in _ _ _ _ _ c.test_bucket.result same c.test_bucket.ensures.err
