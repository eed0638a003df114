-- The records before those that are left are right.
use Rattle.file_check.specs.Records.{IsRightRecordIn}
use Rattle.file_check.proofs.RecordLemmas.{AreTestedTo}
use Rattle.file_check.proofs.bucket.test_bucket.Given as goal

abbrev pub invariant-loop-record : goal.invariant-loop-record
invariant-loop-record g l =
    (goal.iterator-loop-record g).can_next l.record-iterator ×
    (goal.iterator-loop-record g).is_finite l.record-iterator ×
    AreTestedTo (IsRightRecordIn l.layout (g.K.PseudoKey.of_key l.keys) l.bucket) l.bucket.records l.record-iterator
