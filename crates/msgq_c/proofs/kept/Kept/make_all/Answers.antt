-- One call more is made.
use Rattle.msgq_c.proofs.KeepingLemmas.{one_more_made, reads_entry}
use Rattle.msgq_c.proofs.kept.Kept.make_all.Goals as goal

pub loop-preserved : goal.loop-preserved
loop-preserved c =
    one_more_made c.args.calls.now c.loop.reader c.next.new.self c.in-Some.entry c.args.self.now c.loop.self
    c.make_again.new.self c.loop.invariant
    (reads_entry c.next.result c.in-Ok.next c.in-Some.entry c.loop.reader c.next.new.self c.next.ensures c.in-Ok.is
    c.in-Some.is)
    c.in_ok-make_again.ensures
