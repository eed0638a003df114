-- Where the note has come to, the files are as they are to be, and a crash leaves the one or the other.
use Rattle.pair_transfers.proofs.NoteLemmas.{IsGoingOn}
use Rattle.pair_transfers.proofs.noting_over.note_over.Given as goal

abbrev pub invariant-loop : goal.invariant-loop
invariant-loop g l = IsGoingOn g.P.PagePair.is_honest g.P.PagePair.file g.P.PagePair.journal g.P.PagePair.may_leave
    g.P.PagePair.moment g.P.PagePair.left_since l.calls l.fn.pair l.pair l.note
