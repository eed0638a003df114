-- Pages are not counted by records.
use Rattle.std.proofs.Common.{◌≡◌}
use Rattle.migration.proofs.found.Found.add_records.Given as goal

abbrev pub invariant-loop-record : goal.invariant-loop-record
invariant-loop-record l = l.self.read ≡ l.fn.self.read
