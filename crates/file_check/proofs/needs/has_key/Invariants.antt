-- None of those so far is it.
use Rattle.std.proofs.Common.{◌≡◌, ℕ, ◌<◌, false}
use Rattle.std.specs.Prelude.{slice_index_or}
use Rattle.queue_model.specs.declared.queue.Queue.{Queue}
use Rattle.queue_model.specs.Rules.{has_key}
use Rattle.file_check.proofs.needs.has_key.Given as goal

abbrev pub invariant-loop-place : goal.invariant-loop-place
invariant-loop-place l = (k : ℕ) (d : Queue) → k < l.place →
    has_key l.number (slice_index_or l.system.queues k d) ≡ false
