use Rattle.std.proofs.Common.{subst, sym, refl, Option, Some, List, ℕ}
use Rattle.std.specs.Prelude.{nat_lt}
use Rattle.pair_transfers.specs.Saving.{IsNext}
use Rattle.pair_transfers.specs.declared.save.Act.{Act}
use Rattle.pair_transfers.proofs.StepLemmas.{first_step, next_step, over, unseen_step}
use Rattle.pair_transfers.proofs.over.save_over.Goals as goal

-- nothing is done yet
pub loop-init : goal.loop-init
loop-init g c =
    first_step g.P.PagePair.is_honest g.P.PagePair.file g.P.PagePair.journal g.P.PagePair.may_leave g.P.PagePair.moment
    g.P.PagePair.left_since g.S.Unsaved.saved g.S.Unsaved.wants g.S.Unsaved.noted g.S.Unsaved.as_many c.args.pair.now
    c.args.pages.now c.requires c.pages.result c.pages.ensures c.pages.type_inv
    c.calls-calls.result (nat_lt 0 c.calls-calls.result) c.begin.new.self c.calls-calls.ensures refl c.begin.ensures
    (g.met.P.PagePair.only_now c.args.pair.now)

-- an act is done
pub loop-preserved : goal.loop-preserved
loop-preserved g c =
    next_step g.P.PagePair.is_honest g.P.PagePair.file g.P.PagePair.journal g.P.PagePair.may_leave g.P.PagePair.moment
    g.P.PagePair.left_since g.S.Unsaved.saved g.S.Unsaved.wants g.S.Unsaved.noted g.S.Unsaved.as_many c.args.pair.now
    c.args.pages.now c.requires c.pages.result c.pages.ensures c.pages.type_inv c.loop.pair c.loop.pages
    c.next.new.pages c.loop.save c.loop.invariant c.in_ok-act.ensures.kept c.in_ok-act.ensures.saved c.in-Some.act
    c.page.result.now
    (subst (λ (b : List ℕ). (content : List (List ℕ)) → g.S.Unsaved.wants c.loop.pages content →
    IsNext c.loop.save (Some c.in-Some.act) b (g.S.Unsaved.saved c.loop.pages) content) (sym c.page.ensures)
    (subst (λ (o : Option Act). (content : List (List ℕ)) → g.S.Unsaved.wants c.loop.pages content →
    IsNext c.loop.save o c.next.new.bytes (g.S.Unsaved.saved c.loop.pages) content) c.in-Some.is
    c.in_ok-act.ensures.next))
    c.make-is_done.new.pair c.make-is_done.result c.make-is_done.ensures.makes c.make-is_done.ensures.time
    c.told.new.pages c.told.new.self c.in_ok-told.ensures.done c.in_ok-told.ensures.advanced c.in_ok-told.ensures.pages

-- all is done
pub returns-in_default-clause-saved : goal.returns-in_default-clause-saved
returns-in_default-clause-saved g c =
    over g.P.PagePair.is_honest g.P.PagePair.file g.P.PagePair.journal g.P.PagePair.may_leave g.P.PagePair.moment
    g.P.PagePair.left_since g.S.Unsaved.saved g.S.Unsaved.wants g.S.Unsaved.noted g.S.Unsaved.as_many c.args.pair.now
    c.args.pages.now c.requires c.pages.result c.pages.ensures c.pages.type_inv c.loop.pair c.loop.pages
    c.next.new.pages c.loop.save c.loop.invariant c.in_ok-act.ensures.kept c.in_ok-act.ensures.saved
    c.next.new.bytes
    (subst (λ (o : Option Act). (content : List (List ℕ)) → g.S.Unsaved.wants c.loop.pages content →
    IsNext c.loop.save o c.next.new.bytes (g.S.Unsaved.saved c.loop.pages) content) c.in_default.is
    c.in_ok-act.ensures.next)

-- an act has failed
pub returns-in_err-told-clause-any_moment : goal.returns-in_err-told-clause-any_moment
returns-in_err-told-clause-any_moment g c =
    unseen_step g.P.PagePair.is_honest g.P.PagePair.file g.P.PagePair.journal g.P.PagePair.may_leave
    g.P.PagePair.moment g.P.PagePair.left_since g.S.Unsaved.saved g.S.Unsaved.wants g.S.Unsaved.noted
    g.S.Unsaved.as_many
    c.args.pair.now c.args.pages.now c.requires c.pages.result c.pages.ensures c.pages.type_inv c.loop.pair c.loop.pages
    c.next.new.pages c.loop.save c.loop.invariant c.in_ok-act.ensures.kept c.next.ensures.saved c.in-Some.act
    c.page.result.now
    (subst (λ (b : List ℕ). (content : List (List ℕ)) → g.S.Unsaved.wants c.loop.pages content →
    IsNext c.loop.save (Some c.in-Some.act) b (g.S.Unsaved.saved c.loop.pages) content) (sym c.page.ensures)
    (subst (λ (o : Option Act). (content : List (List ℕ)) → g.S.Unsaved.wants c.loop.pages content →
    IsNext c.loop.save o c.next.new.bytes (g.S.Unsaved.saved c.loop.pages) content) c.in-Some.is
    c.in_ok-act.ensures.next))
    c.make-is_done.new.pair c.make-is_done.result c.make-is_done.ensures.makes c.make-is_done.ensures.time
