-- The values of the queues so far were printed.
use Rattle.std.proofs.Common.{take}
use Rattle.msgq_cli.specs.Metrics.{samples_text}
use Rattle.msgq_cli.specs.Outputs.{Prints}
use Rattle.msgq_cli.proofs.metrics.print_samples.Given as goal

abbrev pub invariant-loop-place : goal.invariant-loop-place
invariant-loop-place g l = Prints l.fn.output l.output (samples_text l.metric (take l.place l.system.queues))
