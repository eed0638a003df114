-- The calls before those that are left were made.
use Rattle.msgq_c.specs.Keeping.{MakesAll}
use Rattle.msgq_c.proofs.kept.Kept.make_all.Given as goal

abbrev pub invariant-loop : goal.invariant-loop
invariant-loop l = MakesAll l.fn.calls l.reader l.fn.self l.self
