-- It has failed where it had, or where the client is told so.
use Rattle.std.proofs.Common.{◌≡◌, ◌∙◌, ap, sym, subst, Bool}
use Rattle.std.specs.Prelude.{◌||◌}
use Rattle.desk.specs.History.{is_failure}
use Rattle.durable_desk.specs.Durable.{IsDurable}
use Rattle.durable_desk.proofs.ServingLemmas.{asked_durable}
use Rattle.durable_desk.proofs.durable.DurableDesk.ask.Goals as goal
use Rattle.durable_desk.proofs.durable.DurableDesk.ask.Goals.{then-self, else-self}

pub invariant_of-self : goal.invariant_of-self
invariant_of-self g c =
    let had = c.self.inside.has_failed in
    let told = is_failure c.ask-reply.result in
    let is : c.if-self.self ≡ (had || told) = elim c.if-self.branch [
      | then-self w ↦ w.self-is ∙ w.if-self.true ∙ sym (ap (λ (b : Bool). b || told) w.if-self.true)
      | else-self w ↦ w.self-is ∙ w.is_failure-self-inside.ensures ∙ sym (ap (λ (b : Bool). b || told) w.if-self.false)
    ] in
    subst (λ (b : Bool). IsDurable g.P.PagePair.is_honest g.P.PagePair.may_leave c.ask-reply.new.self
    c.self.inside.device b) (sym is)
    (asked_durable g.P.PagePair.is_honest g.P.PagePair.may_leave c.self.inside.desk c.ask-reply.new.self
    c.self.inside.device (record { client = c.args.client; caller = c.args.caller; call = c.args.call })
    c.ask-reply.result had c.self.invariant c.ask-reply.ensures.asks)
