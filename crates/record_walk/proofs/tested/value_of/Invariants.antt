-- The key's value among the records that are left is its value among all.
use Rattle.std.proofs.Common.{◌≡◌}
use Rattle.record_walk.specs.LookupWords.{lookup}
use Rattle.record_walk.proofs.tested.value_of.Given as goal

abbrev pub invariant-loop-record : goal.invariant-loop-record
invariant-loop-record l =
    (goal.iterator-loop-record).can_next l.record-iterator ×
    (goal.iterator-loop-record).is_finite l.record-iterator ×
    (lookup l.key l.record-iterator ≡ lookup l.key l.records)
