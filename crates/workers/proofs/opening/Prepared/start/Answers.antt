use Rattle.std.proofs.Common.{ap, ◌∙◌}
use Rattle.workers.specs.Opening.{origin_of}
use Rattle.workers.proofs.OpenLemmas.{kept_at_start, stopper_at_start}
use Rattle.workers.proofs.opening.Prepared.start.Goals as goal

-- nothing is decided yet
pub invariant_of-held : goal.invariant_of-held
invariant_of-held g c =
    kept_at_start _ _ c.self.inside.table.table _ _ _ _ c.self.invariant
    (ap (origin_of g.K.PseudoKey.of_key) c.self.view_is ∙ c.requires.origin)
    (c.in-Ok-spare.ensures ∙ c.in-Ok.ensures.own)

pub invariant_of-stopper : goal.invariant_of-stopper
invariant_of-stopper g c = stopper_at_start _ _ _ c.named-gauge.ensures c.deal.ensures.seat
