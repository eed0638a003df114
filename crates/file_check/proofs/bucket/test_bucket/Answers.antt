-- Record by record, up to the first that is wrong.
use Rattle.std.proofs.Common.{refl, rules}
use Rattle.file_check.proofs.RecordLemmas.{tested_none, tested_more, tested_all, tested_wrong}
use Rattle.file_check.proofs.bucket.test_bucket.Goals as goal

pub loop-record-init : goal.loop-record-init
loop-record-init g c = (tt, tt, tested_none _ _ _ (search rules))

pub loop-record-preserved : goal.loop-record-preserved
loop-record-preserved g c =
    let home = rw (c.depth.ensures, c.pattern.ensures, c.of.ensures) at (c.if-not-covers.ensures.0 refl) in (
      tt,
      tt,
      tested_more _ _ _ _ _ c.loop-record.invariant.2 c.in-Some.ensures.steps
          (record { at_home = home; spelled = (c.in-Ok.field-0, c.in-Ok.ensures.ok) }),
    )

pub returns-then-not-covers-clause-err : goal.returns-then-not-covers-clause-err
returns-then-not-covers-clause-err g c =
    let out = rw (c.depth.ensures, c.pattern.ensures, c.of.ensures) at c.if-not-covers.ensures.1 in
    rw (c.misplaced.ensures) (
      refl,
      tested_wrong _ _ _ _ _ _ c.loop-record.invariant.2 c.in-Some.ensures.steps
          (record { elsewhere = λ home. (let t = out home in absurd cc) }),
    )

pub returns-in-Err-clause-err : goal.returns-in-Err-clause-err
returns-in-Err-clause-err g c =
    let home = rw (c.depth.ensures, c.pattern.ensures, c.of.ensures) at (c.if-not-covers.ensures.0 refl) in
    rw (c.bad_record.ensures) (
      refl,
      tested_wrong _ _ _ _ _ _ c.loop-record.invariant.2 c.in-Some.ensures.steps
          (record { at_home = home; senseless = λ (r, s). (let same = c.in-Err.ensures.only r s in absurd cc) }),
    )

pub returns-clause-ok : goal.returns-clause-ok
returns-clause-ok g c = tested_all _ _ _ c.loop-record.invariant.2 (search rules)
