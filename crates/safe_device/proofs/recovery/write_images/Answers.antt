-- An image is written over a page that has it.
use Rattle.std.proofs.Common.{◌≡◌, ◌∙◌, ap, sym, subst, Option, Some, slice_get, set, IsTrue}
use Rattle.safe_device.specs.Left.{images_of}
use Rattle.safe_device.specs.declared.journal.Journal.{Journal}
use Rattle.safe_device.specs.declared.journal.PageImage.{PageImage}
use Rattle.safe_device.proofs.Moments.{goes_on}
use Rattle.safe_device.proofs.Restoring.{Pages, number_found, put_back_found}
use Rattle.safe_device.proofs.Sessions.{restoring_on}
use Rattle.safe_device.proofs.recovery.write_images.Goals as goal

pub returns-in_err-store-clause-restoring : goal.returns-in_err-store-clause-restoring
returns-in_err-store-clause-restoring g c honest =
    let P = g.P.PagePair in
    let old = c.args.pair.now in
    let loop = c.loop-index in
    let image : PageImage = record { page = c.in_ok-page.page; bytes = c.load_image.new.into } in
    let found = subst (λ (q : Option Journal). slice_get (images_of q) loop.index ≡ Some image) loop.invariant.journal
    (c.in_ok-page.ensures.ok honest) in
    restoring_on (P.journal old) image.page (P.may_leave old) (P.may_leave loop.pair) (P.may_leave c.store.new.self)
    (c.requires.some honest) (number_found (images_of (P.journal old)) loop.index image found)
    (loop.invariant.restoring honest) c.store.ensures.crash

pub returns-in_err-store-clause-any_moment : goal.returns-in_err-store-clause-any_moment
returns-in_err-store-clause-any_moment g c honest =
    let P = g.P.PagePair in
    goes_on P.moment P.left_since P.may_leave c.args.pair.now c.loop-index.pair c.store.new.self _
    (c.loop-index.invariant.any_moment honest) c.store.ensures.time
    (returns-in_err-store-clause-restoring g c honest).pages_kept

pub loop-index-preserved : goal.loop-index-preserved
loop-index-preserved g c =
    let P = g.P.PagePair in
    let old = c.args.pair.now in
    let loop = c.loop-index in
    let image : PageImage = record { page = c.in_ok-page.page; bytes = c.load_image.new.into } in
    let found = λ (honest : IsTrue P.is_honest).
    subst (λ (q : Option Journal). slice_get (images_of q) loop.index ≡ Some image) loop.invariant.journal
    (c.in_ok-page.ensures.ok honest) in
    let restoring = λ (honest : IsTrue P.is_honest).
    restoring_on (P.journal old) image.page (P.may_leave old) (P.may_leave loop.pair) (P.may_leave c.store.new.self)
    (c.requires.some honest) (number_found (images_of (P.journal old)) loop.index image (found honest))
    (loop.invariant.restoring honest) c.store.ensures.crash in
    record {
      file = λ honest.
          c.in_ok-store.ensures.ok honest
          ∙ ap (λ (ps : Pages). set ps image.page image.bytes) (loop.invariant.file honest)
          ∙ sym (put_back_found (P.file old) (images_of (P.journal old)) loop.index image (found honest));
      journal = c.store.ensures.journal ∙ loop.invariant.journal;
      restoring = restoring;
      any_moment = λ honest.
          goes_on P.moment P.left_since P.may_leave old loop.pair c.store.new.self _ (loop.invariant.any_moment honest)
          c.store.ensures.time (restoring honest).pages_kept;
    }
