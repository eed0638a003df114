-- What the place of an access ends as once the access that it lent is given back.
use Rattle.std.specs.Prelude.{Option, Some}
use Rattle.std.specs.Borrow.{Lends, LendsIf, MutBor, Fml}
use Rattle.record_file.specs.Accesses.{AccessView}
use Rattle.record_file.specs.contracts.access.Access as access
use Rattle.record_file.specs.contracts.place.AccessPlace as place

-- the access is under way, as it was left
abbrev pub LendsOpened : MutBor (Option AccessView) → MutBor AccessView → Fml
LendsOpened p r = Lends place.the_row access.the_row p r Some

-- the same where one was under way, and else none is
abbrev pub LendsUnderWay : MutBor (Option AccessView) → Option (MutBor AccessView) → Fml
LendsUnderWay p r = LendsIf place.the_row access.the_row p r Some p.now
