-- No queue before the place has the name.
use Rattle.std.proofs.Common.{◌≡◌, ◌<◌, ℕ, false, slice_index_or}
use Rattle.queue_model.specs.declared.queue.Queue.{Queue}
use Rattle.queue_commands.specs.Naming.{is_named}
use Rattle.queue_commands.proofs.queue_name.QueueName.place_in.Given as goal

abbrev pub invariant-loop-place : goal.invariant-loop-place
invariant-loop-place l = (k : ℕ) (d : Queue) → k < l.place →
    is_named l.self (slice_index_or l.system.queues k d) ≡ false
