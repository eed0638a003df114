-- The run has the page, which was tested with the others or is tested now.
use Rattle.std.proofs.Common.{◌-◌, [], subst, ◌∙◌}
use Rattle.std.proofs.lemmas.List.{get_or_default}
use Rattle.std.proofs.lemmas.Result.{err_from_is_err_and}
use Rattle.page_device.specs.Sealed.{IsSealed}
use Rattle.file_walk.proofs.RunLemmas.{held_before, has_page, reached, reached_sealed, other_cause, passed_cause}
use Rattle.file_walk.proofs.sealed_run.SealedRun.reach.Goals as goal

pub returns-then-self-clause-ok : goal.returns-then-self-clause-ok
returns-then-self-clause-ok g c =
    let b = c.in_ok-bring.ensures in
    reached_sealed _ _ _ _ (held_before _ _ _ _ _ b.honest b.same b.held) b.ok c.if-self.true

pub returns-then-self-clause-cause : goal.returns-then-self-clause-cause
returns-then-self-clause-cause g c = λ since told.
    other_cause _ _ _ _ _ (c.in_ok-bring.ensures.cause since told) (λ is. absurd cc)

pub returns-clause-ok : goal.returns-clause-ok
returns-clause-ok g c =
    let b = c.in_ok-bring.ensures in
    let held = held_before _ _ _ _ _ b.honest b.same b.held in
    let there = has_page _ _ _ _ held b.ok in
    reached _ _ _ _ held b.ok (subst (IsSealed c.args.page)
    (c.index.ensures ∙ get_or_default _ (c.args.page - c.bring.new.self.first) _ [] there.within)
    (c.is_sealed.ensures.0 c.if-not-is_sealed.false))

pub returns-then-not-is_sealed-clause-cause : goal.returns-then-not-is_sealed-clause-cause
returns-then-not-is_sealed-clause-cause g c = λ since told.
    other_cause _ _ _ _ _ (c.in_ok-bring.ensures.cause since told) (λ is. absurd cc)

pub returns-clause-cause : goal.returns-clause-cause
returns-clause-cause g c = λ since told.
    other_cause _ _ _ _ _ (c.in_ok-bring.ensures.cause since told) (λ is. absurd cc)

pub returns-in_err-bring-clause-cause : goal.returns-in_err-bring-clause-cause
returns-in_err-bring-clause-cause g c = λ since told.
    let p = err_from_is_err_and c.from_residual.result c.from_residual.ensures.1 in
    passed_cause _ _ _ _ _ _ (c.in_err-bring.ensures.cause since told) p.1 p.2
