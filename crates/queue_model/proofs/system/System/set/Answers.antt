use Rattle.std.proofs.Common.{sym, ap}
use Rattle.queue_model.specs.declared.queue.Queue.{Queue}
use Rattle.queue_model.proofs.LawfulLemmas.{IsLawful-set}
use Rattle.queue_model.proofs.system.System.set.Goals as goal

-- the queue keeps its id and key
pub invariant_of-self : goal.invariant_of-self
invariant_of-self c =
    let after = c.set.ensures.after in
    let old = c.index_mut.result.now in
    IsLawful-set _ c.in_ok-place.place old _ (sym c.index_mut.ensures.value) (ap (λ (q : Queue). q.id) after)
    (ap (λ (q : Queue). q.key) after)
    c.set.ensures.lawful c.self.invariant
