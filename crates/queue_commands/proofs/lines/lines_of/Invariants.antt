-- The lines so far are the first ones.
use Rattle.queue_commands.proofs.LineLemmas.{AreFirst}
use Rattle.queue_commands.proofs.lines.lines_of.Given as goal

abbrev pub invariant-loop-number : goal.invariant-loop-number
invariant-loop-number l = AreFirst l.text l.rest l.bodies.items
