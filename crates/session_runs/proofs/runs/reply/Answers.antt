use Rattle.std.proofs.Common.{refl, sym, subst}
use Rattle.msgq_cli.specs.declared.command.Command.{Command}
use Rattle.session_runs.specs.Taking.{TakesCommand}
use Rattle.session_runs.proofs.runs.reply.Goals as goal

pub returns-in-Call : goal.returns-in-Call
returns-in-Call g c =
    subst (λ (m : Command). TakesCommand c.args.answered c.args.caller m c.call_as.result c.args.session.now
    c.call_as.new.session) (sym c.in-Call.is) c.call_as.ensures

pub returns-in-Stop : goal.returns-in-Stop
returns-in-Stop g c = rw c.in-Stop.is (refl, c.stop.ensures)
