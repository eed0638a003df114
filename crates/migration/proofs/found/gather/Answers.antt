-- Page by page.
use Rattle.std.proofs.Common.{◌∙◌, arith, sym, subst, IsTrue}
use Rattle.std.specs.Prelude.{⊤}
use Rattle.page_device.specs.Device.{HasRisen}
use Rattle.migration.specs.Readable.{IsToldOfPages}
use Rattle.migration.proofs.GatheringLemmas.{has_risen, misses_more}
use Rattle.migration.proofs.found.gather.Goals.{then-faults-failed, else-faults-failed+then-pages-eq0, else-faults-failed+else-pages-eq0}
use Rattle.migration.proofs.found.gather.Goals as goal

pub loop-page-preserved : goal.loop-page-preserved
loop-page-preserved g c =
    let before = c.loop-page.invariant in
    record {
      same = c.add_page.ensures.same ∙ before.same;
      honest = c.add_page.ensures.honest ∙ before.honest;
      later = omega (arith, before.later, c.add_page.ensures.later);
      misses = λ honest. misses_more _ _ _ _ _ _ _ _ before.same before.later c.add_page.ensures.later
          (before.misses honest) (c.in_ok-add_page.ensures.ok (subst IsTrue (sym before.honest) honest));
    }

-- a count fits a `u64`, and each page is below the last
pub returns-then-found-eq0-clause-told : goal.returns-then-found-eq0-clause-told
returns-then-found-eq0-clause-told g c = λ honest.
    let content = g.D.PageDevice.content c.args.device.now in
    let Failed = HasRisen (g.D.PageDevice.fault_count c.args.device.now)
    (g.D.PageDevice.fault_count c.loop-page.device) in
    let misses = c.loop-page.invariant.misses honest c.if-found-eq0.true in
    elim c.if-faults-failed.branch [
      | then-faults-failed w ↦ subst (IsToldOfPages content Failed ⊤) (sym w.result-is) tt
      | else-faults-failed+then-pages-eq0 w ↦ subst (IsToldOfPages content Failed ⊤) (sym w.result-is)
          (sym c.pages-pages.ensures ∙ w.if-pages-eq0.true)
      | else-faults-failed+else-pages-eq0 w ↦ subst (IsToldOfPages content Failed ⊤) (sym w.result-is)
          (λ n readable. has_risen _ _ c.faults.result c.faults.ensures c.faults.type_inv
          (misses n (omega (arith, readable.within, c.pages-pages.ensures, c.loop-page-test.false)) readable))
    ]
