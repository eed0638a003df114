use Rattle.std.proofs.Common.{length, sym, ap, ◌∙◌}
use Rattle.std.specs.Prelude.{◌≢◌}
use Rattle.numbers.specs.declared.limits.TheConstants.{MAX_QUEUES}
use Rattle.queue_model.specs.State.{State}
use Rattle.queue_model.proofs.LawfulLemmas.{IsLawful-create}
use Rattle.queue_model.proofs.system.System.create.Goals as goal

-- a system with a queue more is lawful
pub invariant_of-self-2 : goal.invariant_of-self-2
invariant_of-self-2 c =
    let few : length c.self.inside.queues.items ≢ MAX_QUEUES = λ full. c.if-queues.false
    (c.queues.ensures ∙ ap (λ (s : State). length s.queues) (sym c.self.view_is) ∙ full) in
    let fresh = rw (← c.self.view_is) at c.requires in
    rw (c.in-Ok.ensures.items, c.new.ensures)
    (IsLawful-create _ c.args.caller c.args.arguments.now few c.if-self.false fresh c.self.invariant)
