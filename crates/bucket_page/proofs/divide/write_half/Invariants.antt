use Rattle.bucket_page.specs.Reading.{bucket_in}
use Rattle.bucket_page.specs.Dividing.{half_of, with_bit}
use Rattle.bucket_page.proofs.DivideLaws.{Filling}
use Rattle.bucket_page.proofs.divide.write_half.Given as goal

-- what is still to be appended are the records of this half among those that are left
abbrev pub invariant-loop-record : goal.invariant-loop-record
invariant-loop-record g l =
    (goal.iterator-loop-record g).can_next l.record-iterator ×
    (goal.iterator-loop-record g).is_finite l.record-iterator ×
    Filling (half_of l.set (g.K.PseudoKey.of_key l.keys) l.next (bucket_in l.full))
    (with_bit l.set l.depth (g.K.PseudoKey.of_key l.keys) l.record-iterator) l.into
