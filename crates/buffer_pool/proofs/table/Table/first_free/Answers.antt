-- Where each frame is taken, there are as many pinned pages.
use Rattle.std.proofs.Common.{◌≡◌, ◌∙◌, sym, ap, subst, ◌⊎◌, inl, inr, ℕ, ◌<◌, ◌+◌, length, arith}
use Rattle.std.proofs.lemmas.Bool.{cases_eq}
use Rattle.buffer_pool.specs.Table.{IsTaken}
use Rattle.buffer_pool.proofs.TableLemmas.{all_taken}
use Rattle.buffer_pool.proofs.table.Table.first_free.Goals as goal

pub loop-frame-preserved : goal.loop-frame-preserved
loop-frame-preserved c = λ f below. at f below (cases_eq f c.loop-frame.frame)
  where
    at : (f : ℕ) → f < c.loop-frame.frame + 1 → (f ≡ c.loop-frame.frame) ⊎ (f ≡ c.loop-frame.frame → ⊥)
        → IsTaken c.args.self.now f
    at f below (inl last) = subst (λ n. IsTaken c.args.self.now n) (sym last)
        (c.is_free.ensures.taken c.if-is_free.false)
    at f below (inr earlier) = c.loop-frame.invariant f (omega arith)

pub unreachable-requires : goal.unreachable-requires
unreachable-requires c =
    let pages = c.len-frame-end.ensures ∙ c.self.inside.pages.ok.0 ∙ ap (λ t. length t.pages) c.self.view_is in
    let crowded = all_taken c.args.self.now c.keeps_whole.ensures
    (λ f within. let all = c.loop-frame-test.false in c.loop-frame.invariant f (omega arith)) in
    let room = c.requires in
    omega arith
