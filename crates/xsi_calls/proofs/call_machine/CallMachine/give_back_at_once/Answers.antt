-- A name is given back once all is paid.
use Rattle.std.proofs.Common.{sym, ◌∙◌, subst}
use Rattle.file_pages.specs.declared.fault.FileFault.{FileFault}
use Rattle.xsi_calls.specs.CallSteps.{MakesCall}
use Rattle.xsi_calls.specs.Words.{Progress}
use Rattle.xsi_calls.proofs.DecideAtOnceLemmas.{gave_back}
use Rattle.xsi_calls.proofs.EndingLemmas.{gives_back_paid}
use Rattle.xsi_calls.proofs.call_machine.CallMachine.give_back_at_once.Goals as goal

pub returns-clause-made : goal.returns-clause-made
returns-clause-made c = λ moved hash stopped pool ready.
    let i = c.self.inside in
    subst (λ (d : Progress FileFault). MakesCall hash c.args.seat stopped d c.args.self.now c.release.new.self pool pool
    c.args.locks.now c.release.new.locks)
    (gave_back c.release.result _ _ c.release.ensures.gives (sym c.is_move.ensures ∙ moved))
    (gives_back_paid hash c.args.seat stopped i.caller i.call i.questions i.part i.phase c.args.self.now c.self.view_is
    c.keep_order.ensures c.requires.paid pool ready c.args.locks.now c.requires.seat c.requires.row c.release.result
    c.release.new.self c.release.new.locks c.release.ensures.steps)
