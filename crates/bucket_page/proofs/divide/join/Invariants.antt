use Rattle.bucket_page.specs.Reading.{bucket_in}
use Rattle.bucket_page.specs.Dividing.{joined}
use Rattle.bucket_page.proofs.JoinLaws.{Joining}
use Rattle.bucket_page.proofs.divide.join.Given as goal

-- what is still to be put in are the right bucket's records that are left
abbrev pub invariant-loop-record : goal.invariant-loop-record
invariant-loop-record l =
    (goal.iterator-loop-record).can_next l.record-iterator ×
    (goal.iterator-loop-record).is_finite l.record-iterator ×
    Joining (joined (bucket_in l.left) (bucket_in l.right)) l.record-iterator l.into
