-- The ids of the records before those that are left are put.
use Rattle.std.proofs.Common.{◌≡◌, ◌++◌}
use Rattle.file_check.specs.Ids.{ids_in}
use Rattle.file_check.proofs.ids.put_ids_in.Given as goal

abbrev pub invariant-loop-record : goal.invariant-loop-record
invariant-loop-record l =
    (goal.iterator-loop-record).can_next l.record-iterator ×
    (goal.iterator-loop-record).is_finite l.record-iterator ×
    (l.ids.items ++ ids_in l.record-iterator ≡ l.fn.ids.items ++ ids_in l.bucket.records)
