-- Record by record, up to the first of the key.
use Rattle.std.proofs.Common.{sym, ◌∙◌}
use Rattle.record_walk.proofs.TestedLemmas.{lookup_here, lookup_on}
use Rattle.record_walk.proofs.tested.value_of.Goals as goal

pub returns-then-eq-clause-some : goal.returns-then-eq-clause-some
returns-then-eq-clause-some c =
    sym c.loop-record.invariant.2
    ∙ lookup_here c.args.key.now _ _ _ _ c.in-Some.ensures.steps c.eq.ensures c.if-eq.true

pub loop-record-preserved : goal.loop-record-preserved
loop-record-preserved c = (
  tt,
  tt,
  lookup_on c.args.key.now _ _ _ _ c.in-Some.ensures.steps c.eq.ensures c.if-eq.false ∙ c.loop-record.invariant.2,
)
