use Rattle.std.proofs.Common.{◌<◌, length, refl, inr, arith}
use Rattle.std.proofs.lemmas.Result.{err_from_is_err_and}
use Rattle.file_walk.proofs.PageLemmas.{entries_taken, is_malformed, directory_misplaced, seal_fault}
use Rattle.file_walk.proofs.RunLemmas.{payload_read, other_cause, passed_cause}
use Rattle.file_walk.proofs.pages.take_entries.Goals as goal

pub returns-clause-ok : goal.returns-clause-ok
returns-clause-ok g c =
    let e = rw c.in-Ok-Directory.field-0-is at c.in-Ok-Directory.ensures.value in
    let s = rw c.in-Ok-Directory.field-0-is at c.in-Ok-Directory.ensures.ok in
    entries_taken c.args.layout.now c.requires.layout _ _ _ _ _ _ _ _
    (payload_read _ _ _ _ _ c.in_ok-reach.ensures.ok c.payload.ensures) e s
    c.requires.below s.in_range.number
    c.in_ok-keep_entries.ensures

pub returns-in-Err-clause-err : goal.returns-in-Err-clause-err
returns-in-Err-clause-err g c = λ honest.
    inr (is_malformed c.args.layout.now c.requires.layout _ _ _
    (payload_read _ _ _ _ _ c.in_ok-reach.ensures.ok c.payload.ensures honest) _ c.in-Err.ensures.value)

pub returns-in-Ok-Bucket-clause-err : goal.returns-in-Ok-Bucket-clause-err
returns-in-Ok-Bucket-clause-err g c = λ honest.
    let e = rw c.in-Ok-Bucket.field-0-is at c.in-Ok-Bucket.ensures.value in
    inr (directory_misplaced c.args.layout.now c.requires.layout _ _ _ _ _
    (payload_read _ _ _ _ _ c.in_ok-reach.ensures.ok c.payload.ensures honest) e c.requires.below refl
    c.misplaced.ensures)

pub returns-in-Ok-Tombstone-clause-err : goal.returns-in-Ok-Tombstone-clause-err
returns-in-Ok-Tombstone-clause-err g c = λ honest.
    let e = rw c.in-Ok-Tombstone.field-0-is at c.in-Ok-Tombstone.ensures.value in
    inr (directory_misplaced c.args.layout.now c.requires.layout _ _ _ _ _
    (payload_read _ _ _ _ _ c.in_ok-reach.ensures.ok c.payload.ensures honest) e c.requires.below refl
    c.misplaced-in-Ok-Tombstone.ensures)

pub returns-in-Ok-Free-clause-err : goal.returns-in-Ok-Free-clause-err
returns-in-Ok-Free-clause-err g c = λ honest.
    let e = rw c.in-Ok-Free.field-0-is at c.in-Ok-Free.ensures.value in
    inr (directory_misplaced c.args.layout.now c.requires.layout _ _ _ _ _
    (payload_read _ _ _ _ _ c.in_ok-reach.ensures.ok c.payload.ensures honest) e c.requires.below refl
    c.misplaced-in-Ok-Free.ensures)

pub returns-in_err-reach-clause-err : goal.returns-in_err-reach-clause-err
returns-in_err-reach-clause-err g c = λ honest.
    let p = err_from_is_err_and c.from_residual.result c.from_residual.ensures.1 in
    let within : c.args.page < length (g.D.PageDevice.content c.args.device.now) =
    let whole = c.requires.whole in let here = c.requires.below in omega arith in
    rw (p.1, p.2) (seal_fault c.args.layout.now c.requires.layout _ _ _ within
    (c.in_err-reach.ensures.err honest))

pub returns-in-Ok-Bucket-clause-cause : goal.returns-in-Ok-Bucket-clause-cause
returns-in-Ok-Bucket-clause-cause g c = λ since told.
    let kind = c.misplaced.ensures in
    other_cause _ _ _ _ _ (c.in_ok-reach.ensures.cause since told) (λ is. absurd cc)

pub returns-in-Ok-Tombstone-clause-cause : goal.returns-in-Ok-Tombstone-clause-cause
returns-in-Ok-Tombstone-clause-cause g c = λ since told.
    let kind = c.misplaced-in-Ok-Tombstone.ensures in
    other_cause _ _ _ _ _ (c.in_ok-reach.ensures.cause since told) (λ is. absurd cc)

pub returns-in-Ok-Free-clause-cause : goal.returns-in-Ok-Free-clause-cause
returns-in-Ok-Free-clause-cause g c = λ since told.
    let kind = c.misplaced-in-Ok-Free.ensures in
    other_cause _ _ _ _ _ (c.in_ok-reach.ensures.cause since told) (λ is. absurd cc)

pub returns-in-Err-clause-cause : goal.returns-in-Err-clause-cause
returns-in-Err-clause-cause g c = λ since told.
    other_cause _ _ _ _ _ (c.in_ok-reach.ensures.cause since told) (λ is. absurd cc)

pub returns-in_err-reach-clause-cause : goal.returns-in_err-reach-clause-cause
returns-in_err-reach-clause-cause g c = λ since told.
    let p = err_from_is_err_and c.from_residual.result c.from_residual.ensures.1 in
    passed_cause _ _ _ _ _ _ (c.in_err-reach.ensures.cause since told) p.1 p.2

pub returns-in_err-keep_entries-clause-cause : goal.returns-in_err-keep_entries-clause-cause
returns-in_err-keep_entries-clause-cause g c = λ since told.
    let p = err_from_is_err_and c.from_residual-in_err-keep_entries.result
    c.from_residual-in_err-keep_entries.ensures.1 in
    let told_is = p.1 in let memory = p.2 in
    other_cause _ _ _ _ _ (c.in_ok-reach.ensures.cause since told) (λ is. absurd cc)
