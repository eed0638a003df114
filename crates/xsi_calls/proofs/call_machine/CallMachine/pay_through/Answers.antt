-- What is owed was written in one go, and a name given back behind it.
use Rattle.xsi_calls.specs.CallSteps.{MakesCall}
use Rattle.xsi_calls.specs.Machine.{is_searching}
use Rattle.xsi_calls.specs.OneGo.{GivesBack}
use Rattle.xsi_calls.specs.Words.{at}
use Rattle.xsi_calls.proofs.OneGoLemmas.{one_more}
use Rattle.xsi_calls.proofs.call_machine.CallMachine.pay_through.Goals as goal

pub returns-clause-runs : goal.returns-clause-runs
returns-clause-runs g c = λ stopped.
    let hash = g.K.PseudoKey.of_key c.args.keys.now in
    let makes = MakesCall (g.K.PseudoKey.of_key c.args.keys.now) c.args.seat stopped in
    let s0 = at c.args.self.now c.args.pool.now c.args.locks.now in
    let s1 = at c.pay_all_through-paid.new.self c.pay_all_through-paid.new.pool c.args.locks.now in
    one_more makes is_searching c.args.seat s0 GivesBack c.pay_all_through-paid.result.moves 0 s1
    (at c.give_back_at_once.new.self c.pay_all_through-paid.new.pool c.give_back_at_once.new.locks)
    (c.pay_all_through-paid.ensures.runs stopped)
    (c.give_back_at_once.ensures.made c.if-not-give_back_at_once.false hash stopped c.pay_all_through-paid.new.pool
    c.pay_all_through-paid.ensures.ready)
