-- The queues so far were printed.
use Rattle.std.proofs.Common.{take}
use Rattle.msgq_cli.specs.Outputs.{Prints}
use Rattle.msgq_cli.specs.Reports.{infos_text}
use Rattle.msgq_cli.proofs.reports.print_system.Given as goal

abbrev pub invariant-loop-place : goal.invariant-loop-place
invariant-loop-place g l = Prints l.fn.output l.output (infos_text (take l.place l.system.queues))
