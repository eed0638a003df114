use Rattle.std.proofs.Common.{arith, ℕ, ◌≡◌, ◌+◌, ◌-◌, ◌*◌, ◌++◌, ◌∷◌, [], ap, ◌∙◌, subst, sym, take, drop}
use Rattle.session.specs.Session.{MayNotLoad}
use Rattle.session.proofs.LoadLemmas.{one_more}
use Rattle.session.proofs.RefusalLemmas.{unloaded}
use Rattle.session.proofs.loading.loaded.Goals as goal

-- one page more
pub loop-page-preserved : goal.loop-page-preserved
loop-page-preserved c =
    let at = c.loop-page.page * 4096 in
    let many : at + 4096 - at ≡ 4096 = omega arith in
    one_more c.args.bytes.now c.loop-page.page c.loop-page.device c.add.new.device c.loop-page.invariant
    (c.in_default.ensures.ok ∙ ap (λ (n : ℕ). c.loop-page.device ++ take n (drop at c.args.bytes.now) ∷ []) many)

-- a page is not added
pub returns-in-Err-clause-refused : goal.returns-in-Err-clause-refused
returns-in-Err-clause-refused c =
    subst (MayNotLoad c.args.bytes.now) (sym c.refusal.ensures)
    (unloaded c.args.bytes.now c.loop-page.page c.loop-page.device c.in-Err.fault c.loop-page.invariant
    c.loop-page-test.true (λ is. c.in-Err.ensures.full cc))
