-- It has failed where it had, or where a client is told so.
use Rattle.std.proofs.Common.{◌≡◌, ◌∙◌, ap, sym, subst, Bool}
use Rattle.std.specs.Prelude.{◌||◌}
use Rattle.desk.specs.History.{tells_failure}
use Rattle.durable_desk.specs.Durable.{IsDurable}
use Rattle.durable_desk.proofs.ServingLemmas.{told_durable}
use Rattle.durable_desk.proofs.durable.DurableDesk.next.Goals as goal
use Rattle.durable_desk.proofs.durable.DurableDesk.next.Goals.{then-self, else-self}

pub invariant_of-self : goal.invariant_of-self
invariant_of-self g c =
    let had = c.self.inside.has_failed in
    let told = tells_failure c.next-told.result in
    let is : c.if-self.self ≡ (had || told) = elim c.if-self.branch [
      | then-self w ↦ w.self-is ∙ w.if-self.true ∙ sym (ap (λ (b : Bool). b || told) w.if-self.true)
      | else-self w ↦ w.self-is ∙ w.tells_failure-self-inside.ensures
          ∙ sym (ap (λ (b : Bool). b || told) w.if-self.false)
    ] in
    subst (λ (b : Bool). IsDurable g.P.PagePair.is_honest g.P.PagePair.may_leave c.next-told.new.self
    c.self.inside.device b) (sym is)
    (told_durable g.P.PagePair.is_honest g.P.PagePair.may_leave c.self.inside.desk c.next-told.new.self
    c.self.inside.device c.next-told.result c.next-told.ensures.noted had c.self.invariant c.next-told.ensures.tells)
