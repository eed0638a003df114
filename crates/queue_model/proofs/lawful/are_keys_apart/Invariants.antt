-- Each queue so far is the first of its key.
use Rattle.std.proofs.Common.{ℕ, ◌<◌}
use Rattle.queue_model.specs.Places.{IsFirstOfItsKey}
use Rattle.queue_model.proofs.lawful.are_keys_apart.Given as goal

abbrev pub invariant-loop-place : goal.invariant-loop-place
invariant-loop-place l = (i : ℕ) → i < l.place → IsFirstOfItsKey l.queues i
