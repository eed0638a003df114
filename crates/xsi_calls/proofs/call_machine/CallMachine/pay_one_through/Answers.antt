-- A write that is owed makes its moves.
use Rattle.std.proofs.Common.{◌∙◌, sym, ap}
use Rattle.call_writes.specs.Views.{IsOver}
use Rattle.call_writes.specs.declared.writes.CallWrites.{CallWrites}
use Rattle.xsi_calls.specs.Ending.{HasPaid}
use Rattle.xsi_calls.specs.Machine.{CallView, is_paying}
use Rattle.xsi_calls.specs.declared.part.Part.{Part}
use Rattle.xsi_calls.specs.declared.part.Part.TheVariants as parts
use Rattle.xsi_calls.specs.UndecidedWords.{AnyInquiry, plan_of}
use Rattle.xsi_calls.proofs.EndingLemmas.{paid_there, still_paying, tries_as}
use Rattle.xsi_calls.proofs.MachineLemmas.{machine, writes_at_once}
use Rattle.xsi_calls.proofs.call_machine.CallMachine.pay_one_through.Goals as goal

pub returns-in-Writes : goal.returns-in-Writes
returns-in-Writes g c =
    let i = c.self.inside in
    let pays = sym c.is_paying.ensures ∙ c.if-not-is_paying.false in
    let plan = c.new-plan.ensures ∙ ap (λ (x : AnyInquiry). plan_of c.self.inside.call x) c.inquiry.ensures in
    let place = c.in-Writes.place in
    tries_as (IsOver c.new-plan.result) HasPaid _ _ c.pay_through.result place.writes c.pay_through.new.self
    c.args.self.now _ c.args.pool.now c.pay_through.new.pool
    (λ goes stopped. writes_at_once (g.K.PseudoKey.of_key c.args.keys.now) c.args.seat stopped i.caller i.call
    i.questions i.part i.phase c.args.self.now c.self.view_is pays c.self.invariant place c.in-Writes.is
    c.pay_through.new.self c.keep_order.ensures c.new-plan.result plan c.args.pool.now c.pay_through.new.pool
    c.args.locks.now c.requires.seat c.requires.row goes)
    (λ same. ap (λ (w : CallWrites). machine c.self.inside.caller c.self.inside.call c.self.inside.questions
    (parts.Writes (record {
      writes = w;
      on_trial = c.in-Writes.place.on_trial;
      conclusion = c.in-Writes.place.conclusion;
    })) c.self.inside.phase) same
    ∙ ap (λ (p : Part). machine c.self.inside.caller c.self.inside.call c.self.inside.questions p c.self.inside.phase)
    (sym c.in-Writes.is) ∙ c.self.view_is)
    (paid_there i.caller i.call i.questions i.part i.phase c.args.self.now c.self.view_is pays place c.in-Writes.is
    c.new-plan.result plan) c.pay_through.ensures

pub invariant_of-self : goal.invariant_of-self
invariant_of-self g c =
    let i = c.self.inside in
    still_paying i.caller i.call i.questions i.part i.phase
    (ap (λ (m : CallView). is_paying m.stage) c.self.view_is ∙ sym c.is_paying.ensures ∙ c.if-not-is_paying.false)
    c.self.invariant c.in-Writes.place c.in-Writes.is c.pay_through.new.self
