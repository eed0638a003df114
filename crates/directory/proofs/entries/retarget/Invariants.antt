use Rattle.std.proofs.Common.{◌-◌}
use Rattle.directory.proofs.StrideLaws.{IsRetargetedTo}
use Rattle.directory.proofs.entries.retarget.Given as goal

-- the entries in the slots so far name the bucket where they are in the range, and the next slot's is in it
abbrev pub invariant-loop-slot : goal.invariant-loop-slot
invariant-loop-slot l = IsRetargetedTo l.depth l.fn.range l.bucket l.first l.slot l.initial.payload l.payload

abbrev pub decreases-loop-slot : goal.decreases-loop-slot
decreases-loop-slot l = l.end - l.slot
