-- What a seat ends as once the call that it lent is given back.
use Rattle.std.specs.Prelude.{Option, Some}
use Rattle.std.specs.Borrow.{LendsIf, MutBor, Fml}
use Rattle.interleaving_core.specs.Active.{ActiveView}
use Rattle.interleaving_core.specs.contracts.active.Active as active
use Rattle.interleaving_core.specs.contracts.seat.Seat as seat

-- the call as it was left, where it has one, and else none
abbrev pub LendsCall : MutBor (Option ActiveView) → Option (MutBor ActiveView) → Fml
LendsCall s r = LendsIf seat.the_row active.the_row s r Some s.now
