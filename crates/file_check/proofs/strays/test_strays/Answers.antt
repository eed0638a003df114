-- Page by page, up to the first record that is stray.
use Rattle.std.proofs.Common.{◌⊎◌, IsTrue, sym, subst}
use Rattle.std.specs.Prelude.{slice_index}
use Rattle.std.proofs.lemmas.List.Elements.{All-nil}
use Rattle.std.proofs.lemmas.Result.{err_from_is_err_and}
use Rattle.record_walk.proofs.ListLemmas.{each_next, each_end}
use Rattle.file_check.specs.Fault.{IsOfMachineToo}
use Rattle.file_check.specs.Records.{IsLivePage}
use Rattle.file_check.specs.Strays.{AreNeededOn, IsStrayIn}
use Rattle.file_check.specs.Words.{bucket_at, file_in}
use Rattle.file_check.proofs.RecordLemmas.{still_none, still_more, stands_on, live_page}
use Rattle.file_check.proofs.StrayLemmas.{stray_next}
use Rattle.file_check.proofs.strays.test_strays.Goals as goal

pub loop-page-init : goal.loop-page-init
loop-page-init g c = record {
  still = still_none g.D.PageDevice.content g.D.PageDevice.is_honest g.D.PageDevice.fault_count _;
  needed = λ is. All-nil
      (AreNeededOn c.args.system.now (file_in c.args.layout.now (g.D.PageDevice.content c.args.device.now)));
}

pub loop-page-preserved : goal.loop-page-preserved
loop-page-preserved g c =
    let before = c.loop-page.invariant in
    let taken = c.in_ok-test_strays_on.ensures in
    let page = slice_index c.args.chain.now c.loop-page.page-index in
    record {
      still = still_more g.D.PageDevice.content g.D.PageDevice.is_honest g.D.PageDevice.fault_count _ _ _
          before.still taken.same taken.honest taken.cause.later;
      needed = λ is.
          each_next (AreNeededOn c.args.system.now (file_in c.args.layout.now
          (g.D.PageDevice.content c.args.device.now)))
          c.args.chain.now c.loop-page.page-index 0 c.loop-page-test.true (before.needed is)
          (subst (λ pages. AreNeededOn c.args.system.now (file_in c.args.layout.now pages) page) before.still.same
          (taken.ok (subst IsTrue (sym before.still.honesty) is)));
    }

pub test_strays_on-requires : goal.test_strays_on-requires
test_strays_on-requires g c = λ is.
    let before = c.loop-page.invariant in
    subst (λ pages. IsLivePage c.args.layout.now pages (slice_index c.args.chain.now c.loop-page.page-index))
    (sym before.still.same)
    (live_page _ c.requires.layout _ _ (c.requires.structure (subst IsTrue before.still.honesty is)) _
    (stands_on _ _ c.loop-page-test.true))

pub returns-in_err-test_strays_on-clause-err : goal.returns-in_err-test_strays_on-clause-err
returns-in_err-test_strays_on-clause-err g c = λ is.
    let before = c.loop-page.invariant in
    let page = slice_index c.args.chain.now c.loop-page.page-index in
    let p = err_from_is_err_and c.from_residual.result
    c.from_residual.ensures.1 in
    rw (p.1, p.2) (stray_next c.args.system.now
    (file_in c.args.layout.now (g.D.PageDevice.content c.args.device.now)) _ _ _ c.loop-page-test.true
    (before.needed is)
    (subst (λ pages. IsOfMachineToo c.in_err-test_strays_on.field-0.0
    ⊎ IsStrayIn c.args.system.now (bucket_at (file_in c.args.layout.now pages) page) page
    c.in_err-test_strays_on.field-0.0)
    before.still.same (c.in_err-test_strays_on.ensures.err (subst IsTrue (sym before.still.honesty) is))))

pub returns-clause-ok : goal.returns-clause-ok
returns-clause-ok g c = λ is.
    each_end (AreNeededOn c.args.system.now (file_in c.args.layout.now (g.D.PageDevice.content c.args.device.now)))
    c.args.chain.now c.loop-page.page-index c.loop-page-test.false (c.loop-page.invariant.needed is)
