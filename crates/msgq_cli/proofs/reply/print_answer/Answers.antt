use Rattle.msgq_cli.proofs.OutputLemmas.{Prints-then}
use Rattle.msgq_cli.proofs.reply.print_answer.Goals as goal

-- the number and a space, and then the line of the state
pub returns-in-Info : goal.returns-in-Info
returns-in-Info g c = rw c.in-Info.is
    (Prints-then c.args.output.now c.word.new.self c.print_info.new.output _ _ c.word.ensures
    (Prints-then c.word.new.self c.put.new.self c.print_info.new.output _ _ c.put.ensures c.print_info.ensures))
