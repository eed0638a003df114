-- What is owed is paid behind the Decide.
use Rattle.std.proofs.Common.{sym, ◌∙◌}
use Rattle.xsi_calls.specs.CallSteps.{MakesCall}
use Rattle.xsi_calls.specs.Machine.{is_searching}
use Rattle.xsi_calls.specs.Words.{at}
use Rattle.call_writes.proofs.StartLemmas.{none_of}
use Rattle.xsi_calls.proofs.OneGoLemmas.{goes_so_far, joined, ran}
use Rattle.xsi_calls.proofs.call_machine.CallMachine.go_through.Goals as goal

pub returns-clause-goes : goal.returns-clause-goes
returns-clause-goes g c =
    let makes = MakesCall (g.K.PseudoKey.of_key c.args.keys.now) c.args.seat c.args.stopped in
    let s0 = at c.args.self.now c.args.pool.now c.args.locks.now in
    let s1 = at c.decide_through-first.new.self c.decide_through-first.new.pool c.args.locks.now in
    let s2 = at c.pay_through-last.new.self c.pay_through-last.new.pool c.pay_through-last.new.locks in
    goes_so_far makes is_searching c.args.seat _ 2 _ _
    (joined makes is_searching c.args.seat s0 c.decide_through-first.result.moves c.pay_through-last.result 1 1 s1 s2
    (ran makes is_searching c.args.seat c.decide_through-first.result.moves 1 c.decide_through-first.result.fault s0 s1
    (none_of _ (sym c.is_some.ensures ∙ c.if-is_some.false)) c.decide_through-first.ensures.goes)
    (c.pay_through-last.ensures.runs c.args.stopped))
