-- The queues so far are lawful, and their ids ascend.
use Rattle.queue_model.proofs.PartsLemmas.{AscendSoFar}
use Rattle.queue_model.proofs.Words.{Queue}
use Rattle.queue_model.specs.Lawful.{IsLawfulAlive}
use Rattle.queue_model.proofs.lawful.are_lawful_queues.Given as goal

abbrev pub invariant-loop-queue : goal.invariant-loop-queue
invariant-loop-queue l =
    AscendSoFar (IsLawfulAlive l.next_id) (λ (q : Queue). q.id) l.queues l.queue-index l.low
