-- The calls before those that are left were made.
use Rattle.durable_desk.specs.Opening.{MakesAll}
use Rattle.durable_desk.proofs.remaking.make_all.Given as goal

abbrev pub invariant-loop : goal.invariant-loop
invariant-loop l = MakesAll l.fn.calls l.reader l.fn.desk l.desk
