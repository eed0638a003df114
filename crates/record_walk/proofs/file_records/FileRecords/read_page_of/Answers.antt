-- The page that the directory names is the bucket of the key.
use Rattle.std.proofs.lemmas.Result.{err_from_is_err_and}
use Rattle.record_walk.proofs.BucketLemmas.{named_answers, named_within}
use Rattle.record_walk.proofs.file_records.FileRecords.read_page_of.Goals as goal

pub returns-in_err-read_again-clause-err : goal.returns-in_err-read_again-clause-err
returns-in_err-read_again-clause-err g c = λ is.
    let right = c.self.invariant.1 (rw (← c.self.view_is) at is) in
    let p = err_from_is_err_and c.from_residual.result c.from_residual.ensures.1 in
    rw (p.1, p.2) (named_within _ c.self.invariant.0 _ _ _ right c.args.key.now _ c.page_of-page.ensures _
    c.in_err-read_again.ensures.err)

pub returns-clause-ok : goal.returns-clause-ok
returns-clause-ok g c = λ is.
    let honest = rw (← c.self.view_is) at is in
    rw (← c.self.view_is) (named_answers _ c.self.invariant.0 _ _ _
    (c.self.invariant.1 honest) c.args.key.now _ c.page_of-page.ensures _
    (c.in_ok-read_again.ensures.ok honest))
