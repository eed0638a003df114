use Rattle.replays.proofs.PrintLemmas.{ArePrinted-next, ArePrinted-start}
use Rattle.replays.proofs.printing.print_replies.Goals as goal

pub loop-place-init : goal.loop-place-init
loop-place-init g c = ArePrinted-start c.args.output.now

-- the reply to one line more, if there is one
pub loop-place-preserved : goal.loop-place-preserved
loop-place-preserved g c =
    ArePrinted-next c.args.lines.now c.args.replies.now c.loop-place.place c.index-lines-place.result
    c.index-replies-place.result c.args.output.now c.loop-place.output c.print_reply-ending.new.output
    c.loop-place.ending c.print_reply-ending.result c.requires c.loop-place-test.true c.index-lines-place.is
    c.index-replies-place.is c.loop-place.invariant c.print_reply-ending.ensures.prints
    c.print_reply-ending.ensures.ends
