-- The replies to the lines so far were printed.
use Rattle.std.proofs.Common.{take}
use Rattle.replays.proofs.PrintLemmas.{ArePrinted}
use Rattle.replays.proofs.printing.print_replies.Given as goal

abbrev pub invariant-loop-place : goal.invariant-loop-place
invariant-loop-place g l =
    ArePrinted (take l.place l.lines) (take l.place l.replies) l.fn.output l.output l.ending
