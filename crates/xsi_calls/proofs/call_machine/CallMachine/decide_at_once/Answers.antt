-- A call that can decide makes its Decide.
use Rattle.std.proofs.Common.{refl, sym, ◌∙◌, subst}
use Rattle.xsi_calls.specs.Machine.{CallView}
use Rattle.xsi_calls.specs.Parts.{conclusion_under, payment_under, undecided_with}
use Rattle.xsi_calls.specs.Stages.{stage_at}
use Rattle.xsi_calls.specs.Words.{CanDecide, Ended}
use Rattle.xsi_calls.proofs.DecideAtOnceLemmas.{can_rest}
use Rattle.xsi_calls.proofs.DecidedLemmas.{decides_by}
use Rattle.xsi_calls.proofs.GoLemmas.{undecided_row}
use Rattle.xsi_calls.proofs.call_machine.CallMachine.decide_at_once.Goals as goal

pub returns-clause-made : goal.returns-clause-made
returns-clause-made g c = λ is pool ready.
    let i = c.self.inside in
    let u = undecided_with c.self.inside.call c.self.inside.questions c.self.inside.part in
    let hash = g.K.PseudoKey.of_key c.args.keys.now in
    let undecided = c.requires.can.undecided in
    let can = subst (λ (m : CallView). CanDecide m.call m.undecided) (sym c.self.view_is) c.requires.can.can in
    let row = c.requires.row ∙ undecided_row i.caller i.call u
    (stage_at i.phase (payment_under i.part) (conclusion_under i.part)) c.args.self.now c.self.view_is undecided in
    let e = can_rest hash c.args.seat i.call u.questions u.trials pool c.args.locks.now c.requires.seat ready
    c.keep_order.ensures row can in
    decides_by hash c.args.seat c.args.stopped i.caller i.call u u
    (stage_at i.phase (payment_under i.part) (conclusion_under i.part)) c.args.self.now c.self.view_is undecided
    c.self.invariant.one.calm c.self.invariant.one.by c.keep_order.ensures Ended refl pool pool c.args.locks.now
    c.args.locks.now e.writes e.aim e.row e.step (undecided_with i.call i.questions c.decide.new.part)
    (payment_under c.decide.new.part) (conclusion_under c.decide.new.part) c.in-Ok.ensures.comes
