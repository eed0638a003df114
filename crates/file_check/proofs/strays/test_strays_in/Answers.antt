-- Record by record, up to the first that is stray.
use Rattle.std.proofs.Common.{refl, sym, ◌∙◌, rules}
use Rattle.file_check.proofs.NeedsLemmas.{is_there, is_none}
use Rattle.file_check.proofs.RecordLemmas.{tested_none, tested_more, tested_all, tested_wrong}
use Rattle.file_check.proofs.strays.test_strays_in.Goals as goal

pub loop-record-init : goal.loop-record-init
loop-record-init c = (tt, tt, tested_none _ _ _ (search rules))

pub loop-record-preserved : goal.loop-record-preserved
loop-record-preserved c = (
  tt,
  tt,
  tested_more _ _ _ _ _ c.loop-record.invariant.2 c.in-Some.ensures.steps
      (is_there _ (sym c.if-not-needs.false ∙ c.needs.ensures)),
)

pub returns-then-not-needs-clause-err : goal.returns-then-not-needs-clause-err
returns-then-not-needs-clause-err c =
    rw (c.stray.ensures) (
      refl,
      tested_wrong _ _ _ _ _ _ c.loop-record.invariant.2 c.in-Some.ensures.steps
          (is_none _ (sym c.if-not-needs.true ∙ c.needs.ensures)),
    )

pub returns-clause-ok : goal.returns-clause-ok
returns-clause-ok c = tested_all _ _ _ c.loop-record.invariant.2 (search rules)
