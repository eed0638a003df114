-- The replies to the lines so far are printed.
use Rattle.std.proofs.Common.{take}
use Rattle.service_runs.proofs.PrintLemmas.{ArePrinting}
use Rattle.service_runs.proofs.printing.print_all.Given as goal

abbrev pub invariant-loop-line : goal.invariant-loop-line
invariant-loop-line g l =
    ArePrinting (take l.line-index l.lines) l.desks l.printed l.fn.output l.output l.ending
    l.has_stopped
