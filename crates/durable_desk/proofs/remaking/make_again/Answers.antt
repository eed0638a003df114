-- The calls of one addition more are made.
use Rattle.std.proofs.Common.{ℕ, List, [], subst}
use Rattle.durable_desk.specs.Opening.{MakesAll}
use Rattle.durable_desk.proofs.OpeningLemmas.{one_more_again}
use Rattle.durable_desk.proofs.remaking.make_again.Goals as goal

pub loop-index-preserved : goal.loop-index-preserved
loop-index-preserved g c =
    one_more_again g.P.PagePair.is_honest c.args.device.now.calls c.loop-index.index c.noted.new.into.items
    c.args.desk.now c.loop-index.desk c.make_all.new.desk c.loop-index.invariant c.in-Ok-noted.ensures
    (subst (λ (xs : List ℕ). MakesAll xs [] c.loop-index.desk c.make_all.new.desk) c.deref.ensures.value
    c.in_ok-make_all.ensures.made)
