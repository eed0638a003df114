use Rattle.std.proofs.Common.{◌≡◌, ℕ, ◌<◌, pos, take, false}
use Rattle.std.specs.Prelude.{slice_index_or}
use Rattle.queue_model.specs.declared.message.Message.{Message}
use Rattle.queue_model.specs.Selection.{has_type, lowest_type}
use Rattle.queue_model.proofs.message.first_of_lowest.Given as goal

-- the lowest of the types so far
abbrev pub invariant-loop-message : goal.invariant-loop-message
invariant-loop-message l = l.lowest ≡ lowest_type (pos l.bound) (take l.message-index l.messages)

-- no message so far is of the lowest type
abbrev pub invariant-loop-place : goal.invariant-loop-place
invariant-loop-place l = (k : ℕ) (d : Message) → k < l.place → has_type l.lowest (slice_index_or l.messages k d) ≡ false
