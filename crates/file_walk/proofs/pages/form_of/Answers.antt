-- What is kept of a page, or why it is refused.
use Rattle.std.proofs.Common.{◌≤◌, ◌<◌, length, refl, ap, inr, arith}
use Rattle.std.proofs.lemmas.Result.{err_from_is_err_and}
use Rattle.file_walk.specs.Outlines.{shown}
use Rattle.file_walk.specs.declared.form.Form.TheVariants as forms
use Rattle.file_walk.proofs.PageLemmas.{form_taken, form_misplaced, form_too_deep, is_malformed, seal_fault}
use Rattle.file_walk.proofs.RunLemmas.{payload_read, other_cause, passed_cause}
use Rattle.file_walk.proofs.pages.form_of.Goals as goal

pub returns-else-depth-layout-clause-ok : goal.returns-else-depth-layout-clause-ok
returns-else-depth-layout-clause-ok g c = λ honest.
    let e = rw c.in-Ok-Bucket.field-0-is at c.in-Ok-Bucket.ensures.value in
    let s = rw c.in-Ok-Bucket.field-0-is at c.in-Ok-Bucket.ensures.ok in
    let shallow : c.in-Ok-Bucket.bucket.depth ≤ c.args.layout.now.greatest_depth =
    omega (arith, c.depth.ensures, c.if-depth-layout.false) in
    form_taken c.args.layout.now c.requires.layout _ _ _ _ _
    (payload_read _ _ _ _ _ c.in_ok-reach.ensures.ok c.payload.ensures honest)
    e s c.requires.behind refl shallow
    (ap (λ shape. shown (forms.Bucket shape)) c.shape_of.ensures)

pub returns-then-depth-layout-clause-err : goal.returns-then-depth-layout-clause-err
returns-then-depth-layout-clause-err g c = λ honest.
    let e = rw c.in-Ok-Bucket.field-0-is at c.in-Ok-Bucket.ensures.value in
    let deep : c.args.layout.now.greatest_depth < c.in-Ok-Bucket.bucket.depth =
    omega (arith, c.depth.ensures, c.if-depth-layout.true) in
    inr (form_too_deep c.args.layout.now c.requires.layout _ _ _ _ _
    (payload_read _ _ _ _ _ c.in_ok-reach.ensures.ok c.payload.ensures honest) e
    c.requires.behind refl deep refl)

pub returns-in-Ok-Tombstone-clause-ok : goal.returns-in-Ok-Tombstone-clause-ok
returns-in-Ok-Tombstone-clause-ok g c = λ honest.
    let e = rw c.in-Ok-Tombstone.field-0-is at c.in-Ok-Tombstone.ensures.value in
    let s = rw c.in-Ok-Tombstone.field-0-is at c.in-Ok-Tombstone.ensures.ok in
    form_taken c.args.layout.now c.requires.layout _ _ _ _ _
    (payload_read _ _ _ _ _ c.in_ok-reach.ensures.ok c.payload.ensures honest)
    e s c.requires.behind refl (omega arith) refl

pub returns-in-Ok-Free-clause-ok : goal.returns-in-Ok-Free-clause-ok
returns-in-Ok-Free-clause-ok g c = λ honest.
    let e = rw c.in-Ok-Free.field-0-is at c.in-Ok-Free.ensures.value in
    let s = rw c.in-Ok-Free.field-0-is at c.in-Ok-Free.ensures.ok in
    form_taken c.args.layout.now c.requires.layout _ _ _ _ _
    (payload_read _ _ _ _ _ c.in_ok-reach.ensures.ok c.payload.ensures honest)
    e s c.requires.behind refl (omega arith) refl

pub returns-in-Ok-Directory-clause-err : goal.returns-in-Ok-Directory-clause-err
returns-in-Ok-Directory-clause-err g c = λ honest.
    let e = rw c.in-Ok-Directory.field-0-is at c.in-Ok-Directory.ensures.value in
    inr (form_misplaced c.args.layout.now c.requires.layout _ _ _ _ _
    (payload_read _ _ _ _ _ c.in_ok-reach.ensures.ok c.payload.ensures honest)
    e c.requires.behind refl c.misplaced.ensures)

pub returns-in-Err-clause-err : goal.returns-in-Err-clause-err
returns-in-Err-clause-err g c = λ honest.
    inr (is_malformed c.args.layout.now c.requires.layout _ _ _
    (payload_read _ _ _ _ _ c.in_ok-reach.ensures.ok c.payload.ensures honest) _ c.in-Err.ensures.value)

pub returns-in_err-reach-clause-err : goal.returns-in_err-reach-clause-err
returns-in_err-reach-clause-err g c = λ honest.
    let p = err_from_is_err_and c.from_residual.result c.from_residual.ensures.1 in
    let within : c.args.page < length (g.D.PageDevice.content c.args.device.now) =
    let whole = c.requires.whole in let here = c.requires.within in omega arith in
    rw (p.1, p.2) (seal_fault c.args.layout.now c.requires.layout _ _ _ within
    (c.in_err-reach.ensures.err honest))

pub returns-else-depth-layout-clause-cause : goal.returns-else-depth-layout-clause-cause
returns-else-depth-layout-clause-cause g c = λ since told.
    other_cause _ _ _ _ _ (c.in_ok-reach.ensures.cause since told) (λ is. absurd cc)

pub returns-then-depth-layout-clause-cause : goal.returns-then-depth-layout-clause-cause
returns-then-depth-layout-clause-cause g c = λ since told.
    other_cause _ _ _ _ _ (c.in_ok-reach.ensures.cause since told) (λ is. absurd cc)

pub returns-in-Ok-Tombstone-clause-cause : goal.returns-in-Ok-Tombstone-clause-cause
returns-in-Ok-Tombstone-clause-cause g c = λ since told.
    other_cause _ _ _ _ _ (c.in_ok-reach.ensures.cause since told) (λ is. absurd cc)

pub returns-in-Ok-Free-clause-cause : goal.returns-in-Ok-Free-clause-cause
returns-in-Ok-Free-clause-cause g c = λ since told.
    other_cause _ _ _ _ _ (c.in_ok-reach.ensures.cause since told) (λ is. absurd cc)

pub returns-in-Ok-Directory-clause-cause : goal.returns-in-Ok-Directory-clause-cause
returns-in-Ok-Directory-clause-cause g c = λ since told.
    other_cause _ _ _ _ _ (c.in_ok-reach.ensures.cause since told) (λ is. absurd cc)

pub returns-in-Err-clause-cause : goal.returns-in-Err-clause-cause
returns-in-Err-clause-cause g c = λ since told.
    other_cause _ _ _ _ _ (c.in_ok-reach.ensures.cause since told) (λ is. absurd cc)

pub returns-in_err-reach-clause-cause : goal.returns-in_err-reach-clause-cause
returns-in_err-reach-clause-cause g c = λ since told.
    let p = err_from_is_err_and c.from_residual.result c.from_residual.ensures.1 in
    passed_cause _ _ _ _ _ _ (c.in_err-reach.ensures.cause since told) p.1 p.2
