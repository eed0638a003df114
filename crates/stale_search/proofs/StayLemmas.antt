-- What a machine keeps that drives another one.
use Rattle.std.proofs.Common.{ap}
use Rattle.stale_search.specs.Words.{Progress, Moved, Blocked, Fault, Ended}
use Rattle.stale_search.specs.Steps.{Stays}

-- where the other one stays, so does what is made of it
pub Stays-of : {F T U : Type 0} (whole : T → U) (did : Progress F) (old new : T) → Stays did old new →
    Stays did (whole old) (whole new)
Stays-of whole (Moved kind) old new same = tt
Stays-of whole (Blocked other) old new same = ap whole same
Stays-of whole (Fault fault) old new same = ap whole same
Stays-of whole Ended old new same = ap whole same
