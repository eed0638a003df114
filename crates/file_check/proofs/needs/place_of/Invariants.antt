-- The queue can stand between two places alone.
use Rattle.std.proofs.Common.{◌-◌}
use Rattle.queue_model.specs.declared.queue.Queue.{Queue}
use Rattle.file_check.proofs.NeedsLemmas.{IsHalved}
use Rattle.file_check.proofs.needs.place_of.Given as goal

abbrev pub invariant-search : goal.invariant-search
invariant-search l = IsHalved (λ (q : Queue). q.id) l.system.queues l.id l.low l.high

-- they come nearer
abbrev pub decreases-search : goal.decreases-search
decreases-search l = l.high - l.low
