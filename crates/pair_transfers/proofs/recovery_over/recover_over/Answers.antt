use Rattle.std.proofs.Common.{sym, ◌∙◌}
use Rattle.pair_transfers.proofs.RecoveryStepLemmas.{next_comes, unseen_act}
use Rattle.pair_transfers.proofs.recovery_over.recover_over.Goals as goal

-- an act is done
pub loop-preserved : goal.loop-preserved
loop-preserved g c =
    next_comes g.P.PagePair.is_honest g.P.PagePair.file g.P.PagePair.journal g.P.PagePair.may_leave
    g.P.PagePair.moment g.P.PagePair.left_since c.args.pair.now c.loop.pair c.make-is_done.new.pair
    c.make-is_done.result c.loop.recovery c.loop.invariant c.in-Some.act (sym c.in-Some.is ∙ c.in_ok-act.ensures.ok)
    c.make-is_done.ensures.makes c.make-is_done.ensures.time c.told.new.self c.in_ok-told.ensures.done
    c.in_ok-told.ensures.ok

-- an act has failed
pub returns-in_err-told-clause-any_moment : goal.returns-in_err-told-clause-any_moment
returns-in_err-told-clause-any_moment g c =
    unseen_act g.P.PagePair.is_honest g.P.PagePair.file g.P.PagePair.journal g.P.PagePair.may_leave
    g.P.PagePair.moment g.P.PagePair.left_since c.args.pair.now c.loop.pair c.make-is_done.new.pair
    c.make-is_done.result c.loop.recovery c.loop.invariant c.in-Some.act (sym c.in-Some.is ∙ c.in_ok-act.ensures.ok)
    c.make-is_done.ensures.makes c.make-is_done.ensures.time
