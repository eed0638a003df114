-- A name is given back.
use Rattle.std.proofs.Common.{◌≡◌, sym, ap, subst, false}
use Rattle.xsi_calls.specs.CallSteps.{MakesRelease}
use Rattle.xsi_calls.specs.NameSteps.{GivesBack}
use Rattle.xsi_calls.specs.Machine.{CallView, call_locks, is_paying, is_undecided}
use Rattle.xsi_calls.specs.Parts.{undecided_with}
use Rattle.xsi_calls.specs.declared.questions.Questions.{Questions}
use Rattle.xsi_calls.specs.Words.{row_of}
use Rattle.xsi_calls.proofs.MachineLemmas.{machine}
use Rattle.xsi_calls.proofs.ReleaseLemmas.{releases}
use Rattle.xsi_calls.proofs.call_machine.CallMachine.release.Goals as goal

pub returns-clause-steps : goal.returns-clause-steps
returns-clause-steps c =
    let i = c.self.inside in
    let inside = machine i.caller i.call i.questions i.part i.phase in
    let e = c.give_back.ensures in
    subst (λ (m : CallView). MakesRelease c.args.seat c.give_back.result m (machine c.self.inside.caller
    c.self.inside.call c.give_back.new.self c.self.inside.part c.self.inside.phase)
    c.args.locks.now c.give_back.new.locks) c.self.view_is
    (releases c.args.seat inside
    (subst (λ (m : CallView). is_undecided m.stage ≡ false) (sym c.self.view_is) c.requires.undecided)
    (subst (λ (m : CallView). is_paying m.stage ≡ false) (sym c.self.view_is) c.requires.paid)
    c.args.locks.now c.requires.seat
    (subst (λ (m : CallView). row_of c.args.locks.now c.args.seat ≡ call_locks m) (sym c.self.view_is) c.requires.row)
    c.give_back.result (undecided_with i.call c.give_back.new.self i.part) c.give_back.new.locks e.gives
    (ap (λ (x : Questions). undecided_with c.self.inside.call x c.self.inside.part) e.others) e.row e.step)

pub returns-clause-gives : goal.returns-clause-gives
returns-clause-gives c =
    subst (λ (m : CallView). GivesBack c.give_back.result m.undecided.questions.names c.give_back.new.self.names)
    c.self.view_is c.give_back.ensures.gives
