use Rattle.std.proofs.Common.{sym, ◌∙◌}
use Rattle.pair_transfers.proofs.NoteLemmas.{next_goes_on, no_image_yet, note_begins, unseen_note}
use Rattle.pair_transfers.proofs.noting_over.note_over.Goals as goal

-- nothing is done yet
pub loop-init : goal.loop-init
loop-init g c =
    note_begins g.P.PagePair.is_honest g.P.PagePair.file g.P.PagePair.journal g.P.PagePair.may_leave
    g.P.PagePair.moment g.P.PagePair.left_since c.args.calls.now c.args.pair.now c.requires c.pages-count.result
    c.pages-count.ensures c.begin-note.result c.begin-note.ensures (g.met.P.PagePair.only_now c.args.pair.now)

-- an act adds to a journal without images
pub make-is_done-requires : goal.make-is_done-requires
make-is_done-requires g c =
    no_image_yet g.P.PagePair.is_honest g.P.PagePair.file g.P.PagePair.journal g.P.PagePair.may_leave
    g.P.PagePair.moment g.P.PagePair.left_since c.args.calls.now c.args.pair.now c.requires c.pages-count.result
    c.pages-count.ensures c.loop.pair c.loop.note c.loop.invariant

-- an act is done
pub loop-preserved : goal.loop-preserved
loop-preserved g c =
    next_goes_on g.P.PagePair.is_honest g.P.PagePair.file g.P.PagePair.journal g.P.PagePair.may_leave
    g.P.PagePair.moment g.P.PagePair.left_since c.args.calls.now c.args.pair.now c.requires c.pages-count.result
    c.pages-count.ensures c.loop.pair c.make-is_done.new.pair c.make-is_done.result c.loop.note c.loop.invariant
    c.in-Some.act (sym c.in-Some.is ∙ c.in_ok-act.ensures.ok) c.make-is_done.ensures.makes
    c.make-is_done.ensures.time c.told.new.self c.in_ok-told.ensures.done c.in_ok-told.ensures.ok

-- an act has failed
pub returns-in_err-told-clause-any_moment : goal.returns-in_err-told-clause-any_moment
returns-in_err-told-clause-any_moment g c =
    unseen_note g.P.PagePair.is_honest g.P.PagePair.file g.P.PagePair.journal g.P.PagePair.may_leave
    g.P.PagePair.moment g.P.PagePair.left_since c.args.calls.now c.args.pair.now c.requires c.pages-count.result
    c.pages-count.ensures c.loop.pair c.make-is_done.new.pair c.make-is_done.result c.loop.note c.loop.invariant
    c.in-Some.act (sym c.in-Some.is ∙ c.in_ok-act.ensures.ok) c.make-is_done.ensures.makes
    c.make-is_done.ensures.time
