-- Where the save has come to, the files are as they are to be, and a crash leaves the one or the other.
use Rattle.pair_transfers.proofs.StepLemmas.{AreUnderWay}
use Rattle.pair_transfers.proofs.over.save_over.Given as goal

abbrev pub invariant-loop : goal.invariant-loop
invariant-loop g l = AreUnderWay g.P.PagePair.is_honest g.P.PagePair.file g.P.PagePair.journal g.P.PagePair.may_leave
    g.P.PagePair.moment g.P.PagePair.left_since g.S.Unsaved.saved g.S.Unsaved.wants g.S.Unsaved.noted l.fn.pair l.pair
    l.fn.pages l.pages l.save
