-- The system needs the records before those that are left.
use Rattle.file_check.specs.Strays.{IsNeeded}
use Rattle.file_check.proofs.RecordLemmas.{AreTestedTo}
use Rattle.file_check.proofs.strays.test_strays_in.Given as goal

abbrev pub invariant-loop-record : goal.invariant-loop-record
invariant-loop-record l =
    (goal.iterator-loop-record).can_next l.record-iterator ×
    (goal.iterator-loop-record).is_finite l.record-iterator ×
    AreTestedTo (IsNeeded l.system) l.bucket.records l.record-iterator
