use Rattle.std.proofs.Common.{◌≤◌, arith}
use Rattle.std.specs.List.{All}
use Rattle.std.proofs.lemmas.List.Sums.{sum_by-le}
use Rattle.std.proofs.lemmas.List.Elements.{All-weaker}
use Rattle.queue_model.specs.declared.queue.Queue.{Queue}
use Rattle.queue_model.specs.Lawful.{IsLawfulQueue}
use Rattle.queue_model.specs.Rules.{messages_of}
use Rattle.queue_model.proofs.system.System.messages.Goals as goal

-- few queues of few messages each
pub messages_on-requires : goal.messages_on-requires
messages_on-requires c =
    let qs = c.self.inside.queues.items in
    let few : All (λ q. messages_of q ≤ 1024) qs =
    All-weaker IsLawfulQueue (λ (q : Queue). messages_of q ≤ 1024)
    (λ q lawful. lawful.few_messages) qs c.self.invariant.queues_lawful in
    let most = sum_by-le messages_of 1024 qs few in
    rw c.as_slice.ensures.value (omega (arith, most, c.self.invariant.few_queues))
