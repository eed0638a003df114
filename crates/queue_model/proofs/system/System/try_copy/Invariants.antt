use Rattle.std.proofs.Common.{◌≡◌, take}
use Rattle.queue_model.proofs.system.System.try_copy.Given as goal

-- the queues so far are copied
abbrev pub invariant-loop-queue : goal.invariant-loop-queue
invariant-loop-queue l = l.queues.items ≡ take l.queue-index l.self-inside.queues.items
