use Rattle.std.proofs.Common.{sym}
use Rattle.command_runs.proofs.RunLemmas.{comes_to, comes_to_none, stands_opened}
use Rattle.command_runs.proofs.running.ask_session.Goals as goal

-- there is no text
pub returns-in-Err : goal.returns-in-Err
returns-in-Err c = λ a content opens.
    rw (c.of_asking.ensures) (comes_to_none a c.args.request.now content c.args.session opens c.ask-asked.new.answers
    c.in-Err.error (sym c.abandon.ensures.faults)
    (c.in-Err.ensures content a opens.system (stands_opened a content c.args.session opens)))

-- there is one
pub returns-in-Ok : goal.returns-in-Ok
returns-in-Ok c = λ a content opens.
    comes_to a c.args.request.now content c.args.session opens c.ask-asked.new.answers c.in-Ok.text
    (c.in-Ok.ensures content a opens.system (stands_opened a content c.args.session opens))
