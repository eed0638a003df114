-- The pages before the next are written, and a crash leaves the last commit.
use Rattle.std.proofs.Common.{◌-◌}
use Rattle.durable_desk.proofs.CommitLemmas.{IsWriting}
use Rattle.durable_desk.proofs.commit.write_changed.Given as goal

abbrev pub invariant-loop-from : goal.invariant-loop-from
invariant-loop-from g l = IsWriting g.P.PagePair.is_honest g.P.PagePair.file g.P.PagePair.journal g.P.PagePair.moment
    g.P.PagePair.left_since g.P.PagePair.may_leave l.from l.fn.desk l.desk l.fn.device l.device

abbrev pub decreases-loop-from : goal.decreases-loop-from
decreases-loop-from g l = l.pages - l.from
