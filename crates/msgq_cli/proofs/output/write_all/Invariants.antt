use Rattle.msgq_cli.proofs.OutputLemmas.{IsTaking}
use Rattle.msgq_cli.proofs.output.write_all.Given as goal

abbrev pub invariant-loop : goal.invariant-loop
invariant-loop g l = IsTaking (g.W.Write.contents l.initial.writer) (g.W.Write.contents l.writer) l.text l.rest
