use Rattle.std.proofs.Common.{◌≡◌}
use Rattle.bucket_page.specs.Records.{ascend, ascend_from}
use Rattle.bucket_page.proofs.records.Records.ascend.Given as goal

-- the keys that are left ascend from the last one where all do
abbrev pub invariant-loop-record : goal.invariant-loop-record
invariant-loop-record l =
    (goal.iterator-loop-record).can_next l.record-iterator ×
    (goal.iterator-loop-record).is_finite l.record-iterator ×
    (ascend_from l.low l.record-iterator ≡ ascend l.self)
