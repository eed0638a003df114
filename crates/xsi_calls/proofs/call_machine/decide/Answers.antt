-- What it comes to, and what it pays from then on.
use Rattle.xsi_calls.proofs.MachineLemmas.{comes_to}
use Rattle.xsi_calls.proofs.call_machine.decide.Goals as goal

pub returns-clause-comes : goal.returns-clause-comes
returns-clause-comes g c =
    let d = c.in_ok-decided in
    comes_to (g.K.PseudoKey.of_key c.args.keys.now) c.args.call.now c.args.stopped c.args.questions.now c.args.part.now
    c.begin_payment.new.self d.decided.settled d.decided.due c.requires c.begin_payment.ensures
    d.ensures.due (λ seat s records pool locks change un mark.
    d.ensures.decided (g.K.PseudoKey.of_key c.args.keys.now) seat s records pool locks change un mark)
