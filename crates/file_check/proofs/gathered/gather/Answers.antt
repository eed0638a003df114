-- Page by page.
use Rattle.std.proofs.Common.{IsTrue, sym, subst}
use Rattle.std.specs.Prelude.{slice_index}
use Rattle.file_check.specs.Records.{AreRightOn, AreRightRecordsIn, IsLivePage}
use Rattle.file_check.specs.Words.{file_in}
use Rattle.file_check.proofs.RecordLemmas.{kept, still_none, still_more, stands_on, live_page, right_none, right_next, right_end}
use Rattle.file_check.proofs.gathered.gather.Goals as goal

pub loop-page-init : goal.loop-page-init
loop-page-init g c = record {
  still = still_none g.D.PageDevice.content g.D.PageDevice.is_honest g.D.PageDevice.fault_count _;
  right = λ is. right_none c.args.layout.now (g.K.PseudoKey.of_key c.args.keys.now)
      (file_in c.args.layout.now (g.D.PageDevice.content c.args.device.now)) c.args.chain.now;
}

pub gather_on-requires : goal.gather_on-requires
gather_on-requires g c = λ is.
    let before = c.loop-page.invariant in
    subst (λ pages. IsLivePage c.args.layout.now pages (slice_index c.args.chain.now c.loop-page.page-index))
    (sym before.still.same)
    (live_page _ c.requires.layout _ _ (c.requires.structure (subst IsTrue before.still.honesty is)) _
    (stands_on _ _ c.loop-page-test.true))

pub loop-page-preserved : goal.loop-page-preserved
loop-page-preserved g c =
    let before = c.loop-page.invariant in
    let taken = c.in_ok-gather_on.ensures in
    let page = slice_index c.args.chain.now c.loop-page.page-index in
    record {
      still = still_more g.D.PageDevice.content g.D.PageDevice.is_honest g.D.PageDevice.fault_count _ _ _
          before.still taken.same taken.honest taken.later;
      right = λ is. right_next c.args.layout.now (g.K.PseudoKey.of_key c.args.keys.now)
          (file_in c.args.layout.now (g.D.PageDevice.content c.args.device.now)) _ _ c.loop-page-test.true
          (before.right is)
          (subst (λ pages. AreRightOn c.args.layout.now (g.K.PseudoKey.of_key c.args.keys.now)
          (file_in c.args.layout.now pages) page) before.still.same
          (taken.right (subst IsTrue (sym before.still.honesty) is)));
    }

pub returns-clause-right : goal.returns-clause-right
returns-clause-right g c = λ is.
    let hash = g.K.PseudoKey.of_key c.args.keys.now in
    let file = file_in c.args.layout.now (g.D.PageDevice.content c.args.device.now) in
    kept (AreRightRecordsIn c.args.layout.now hash file c.args.chain.now) c.whole.result
    (right_end c.args.layout.now hash file _ _ c.loop-page-test.false (c.loop-page.invariant.right is))
