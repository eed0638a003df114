use Rattle.queue_model.proofs.LawfulLemmas.{IsLawful-remove}
use Rattle.queue_model.proofs.system.System.remove.Goals as goal

-- a system with a queue less is lawful
pub invariant_of-self : goal.invariant_of-self
invariant_of-self c =
    let found = rw (← c.self.view_is) at c.in_ok-place.ensures.found in
    rw c.remove-removed.ensures.items (IsLawful-remove _ c.in_ok-place.place found.within c.self.invariant)
