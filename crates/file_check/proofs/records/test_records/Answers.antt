-- Page by page, up to the first record that is wrong.
use Rattle.std.proofs.Common.{◌⊎◌, IsTrue, sym, subst}
use Rattle.std.specs.Prelude.{slice_index}
use Rattle.std.proofs.lemmas.Result.{err_from_is_err_and}
use Rattle.file_check.specs.Fault.{IsOfMachineToo}
use Rattle.file_check.specs.Records.{AreRightOn, IsLivePage, IsWrongIn}
use Rattle.file_check.specs.Words.{bucket_at, file_in}
use Rattle.file_check.proofs.RecordLemmas.{still_none, still_more, stands_on, live_page, right_none, right_next, right_end, wrong_next}
use Rattle.file_check.proofs.records.test_records.Goals as goal

pub loop-page-init : goal.loop-page-init
loop-page-init g c = record {
  still = still_none g.D.PageDevice.content g.D.PageDevice.is_honest g.D.PageDevice.fault_count _;
  right = λ is. right_none c.args.layout.now (g.K.PseudoKey.of_key c.args.keys.now)
      (file_in c.args.layout.now (g.D.PageDevice.content c.args.device.now)) c.args.chain.now;
}

pub loop-page-preserved : goal.loop-page-preserved
loop-page-preserved g c =
    let before = c.loop-page.invariant in
    let taken = c.in_ok-test_page.ensures in
    let page = slice_index c.args.chain.now c.loop-page.page-index in
    record {
      still = still_more g.D.PageDevice.content g.D.PageDevice.is_honest g.D.PageDevice.fault_count _ _ _
          before.still taken.same taken.honest taken.cause.later;
      right = λ is. right_next c.args.layout.now (g.K.PseudoKey.of_key c.args.keys.now)
          (file_in c.args.layout.now (g.D.PageDevice.content c.args.device.now)) _ _ c.loop-page-test.true
          (before.right is)
          (subst (λ pages. AreRightOn c.args.layout.now (g.K.PseudoKey.of_key c.args.keys.now)
          (file_in c.args.layout.now pages) page) before.still.same
          (taken.ok (subst IsTrue (sym before.still.honesty) is)));
    }

pub test_page-requires : goal.test_page-requires
test_page-requires g c = λ is.
    let before = c.loop-page.invariant in
    subst (λ pages. IsLivePage c.args.layout.now pages (slice_index c.args.chain.now c.loop-page.page-index))
    (sym before.still.same)
    (live_page _ c.requires.layout _ _ (c.requires.structure (subst IsTrue before.still.honesty is)) _
    (stands_on _ _ c.loop-page-test.true))

pub returns-in_err-test_page-clause-err : goal.returns-in_err-test_page-clause-err
returns-in_err-test_page-clause-err g c = λ is.
    let before = c.loop-page.invariant in
    let page = slice_index c.args.chain.now c.loop-page.page-index in
    let p = err_from_is_err_and c.from_residual.result
    c.from_residual.ensures.1 in
    rw (p.1, p.2) (wrong_next c.args.layout.now (g.K.PseudoKey.of_key c.args.keys.now)
    (file_in c.args.layout.now (g.D.PageDevice.content c.args.device.now)) _ _ _ c.loop-page-test.true (before.right is)
    (subst (λ pages. IsOfMachineToo c.in_err-test_page.field-0.0
    ⊎ IsWrongIn c.args.layout.now (g.K.PseudoKey.of_key c.args.keys.now)
    (bucket_at (file_in c.args.layout.now pages) page) page
    c.in_err-test_page.field-0.0)
    before.still.same (c.in_err-test_page.ensures.err (subst IsTrue (sym before.still.honesty) is))))

pub returns-clause-ok : goal.returns-clause-ok
returns-clause-ok g c = λ is. right_end c.args.layout.now (g.K.PseudoKey.of_key c.args.keys.now)
    (file_in c.args.layout.now (g.D.PageDevice.content c.args.device.now)) _ _ c.loop-page-test.false
    (c.loop-page.invariant.right is)
