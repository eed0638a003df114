use Rattle.bucket_page.specs.Dividing.{ShareNoKey}
use Rattle.file_pages.proofs.buddies.share_no_key.Given as goal

-- no key is shared exactly where none of those that are left is
abbrev pub invariant-loop-record : goal.invariant-loop-record
invariant-loop-record l =
    (goal.iterator-loop-record).can_next l.record-iterator ×
    (goal.iterator-loop-record).is_finite l.record-iterator ×
    (ShareNoKey l.left.records l.record-iterator → ShareNoKey l.left.records l.right.records) ×
    (ShareNoKey l.left.records l.right.records → ShareNoKey l.left.records l.record-iterator)
