-- The records before those that are left are of the system, and are counted.
use Rattle.std.proofs.Common.{◌≡◌, ◌+◌, length}
use Rattle.file_check.specs.Gathered.{IsOf}
use Rattle.file_check.proofs.RecordLemmas.{AreTestedTo}
use Rattle.file_check.proofs.compared.count_in.Given as goal

abbrev pub invariant-loop-record : goal.invariant-loop-record
invariant-loop-record l =
    (goal.iterator-loop-record).can_next l.record-iterator ×
    (goal.iterator-loop-record).is_finite l.record-iterator ×
    AreTestedTo (IsOf l.layout l.system) l.bucket.records l.record-iterator ×
    (l.count + length l.record-iterator ≡ length l.bucket.records)
