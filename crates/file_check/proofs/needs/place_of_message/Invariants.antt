-- The message can stand between two places alone.
use Rattle.std.proofs.Common.{◌-◌}
use Rattle.queue_model.specs.declared.message.Message.{Message}
use Rattle.file_check.proofs.NeedsLemmas.{IsHalved}
use Rattle.file_check.proofs.needs.place_of_message.Given as goal

abbrev pub invariant-search : goal.invariant-search
invariant-search l = IsHalved (λ (m : Message). m.serial) l.messages l.serial l.low l.high

-- they come nearer
abbrev pub decreases-search : goal.decreases-search
decreases-search l = l.high - l.low
