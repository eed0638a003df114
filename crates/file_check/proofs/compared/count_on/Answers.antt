-- Page by page.
use Rattle.std.proofs.Common.{◌≡◌, ◌+◌, IsTrue, refl, sym, subst, rules}
use Rattle.std.specs.Prelude.{slice_index}
use Rattle.std.proofs.lemmas.List.Elements.{All-nil}
use Rattle.file_check.specs.Gathered.{AreCounted, IsOf}
use Rattle.file_check.specs.Records.{IsLivePage}
use Rattle.file_check.specs.Words.{file_in, records_at}
use Rattle.file_check.proofs.GatheredLemmas.{counted_end, counted_more}
use Rattle.file_check.proofs.RecordLemmas.{still_none, still_more, stands_on, live_page}
use Rattle.file_check.proofs.compared.count_on.Goals as goal

pub loop-page-init : goal.loop-page-init
loop-page-init g c = record {
  still = still_none g.D.PageDevice.content g.D.PageDevice.is_honest g.D.PageDevice.fault_count _;
  counted = λ is. record { each = All-nil (IsOf c.args.layout.now c.args.system.now); number = refl };
}

pub count_on_page-requires-clause-live : goal.count_on_page-requires-clause-live
count_on_page-requires-clause-live g c = λ is.
    let before = c.loop-page.invariant in
    subst (λ pages. IsLivePage c.args.layout.now pages (slice_index c.args.chain.now c.loop-page.page-index))
    (sym before.still.same)
    (live_page _ c.requires.layout _ _ (c.requires.structure (subst IsTrue before.still.honesty is)) _
    (stands_on _ _ c.loop-page-test.true))

pub loop-page-preserved : goal.loop-page-preserved
loop-page-preserved g c =
    let before = c.loop-page.invariant in
    let taken = c.in_ok-count_on_page.ensures in
    let page = slice_index c.args.chain.now c.loop-page.page-index in
    let sum : c.in_ok-count.count ≡ c.loop-page.count + c.in_ok-count_on_page.field-0 = search rules in
    record {
      still = still_more g.D.PageDevice.content g.D.PageDevice.is_honest g.D.PageDevice.fault_count _ _ _
          before.still taken.same taken.honest taken.later;
      counted = λ is.
          rw sum (counted_more c.args.layout.now c.args.system.now
          (file_in c.args.layout.now (g.D.PageDevice.content c.args.device.now)) c.args.chain.now
          c.loop-page.page-index c.loop-page.count c.in_ok-count_on_page.field-0 c.loop-page-test.true
          (before.counted is)
          (subst (λ pages. AreCounted c.args.layout.now c.args.system.now
          (records_at (file_in c.args.layout.now pages) page) c.in_ok-count_on_page.field-0)
          before.still.same (taken.some (subst IsTrue (sym before.still.honesty) is))));
    }

pub returns-clause-some : goal.returns-clause-some
returns-clause-some g c = λ is.
    counted_end c.args.layout.now c.args.system.now (file_in c.args.layout.now
    (g.D.PageDevice.content c.args.device.now)) c.args.chain.now
    c.loop-page.page-index c.loop-page.count c.loop-page-test.false (c.loop-page.invariant.counted is)
