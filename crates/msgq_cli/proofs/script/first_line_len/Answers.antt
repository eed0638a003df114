use Rattle.msgq_cli.proofs.ScriptLemmas.{line_to, line_of_all}
use Rattle.msgq_cli.proofs.script.first_line_len.Goals as goal

pub returns-in-Some-clause-first : goal.returns-in-Some-clause-first
returns-in-Some-clause-first c = line_to c.args.text.now c.in-Some.end c.in-Some.ensures

pub returns-in-None-clause-first : goal.returns-in-None-clause-first
returns-in-None-clause-first c = line_of_all c.args.text.now c.requires c.in-None.ensures
