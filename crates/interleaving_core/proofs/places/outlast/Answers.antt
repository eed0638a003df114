-- The loop writes over each seat what it becomes.
use Rattle.std.proofs.Common.{rules, option_map}
use Rattle.std.proofs.lemmas.List.Edits.{map_over_more}
use Rattle.interleaving_core.specs.Renewing.{outlasting}
use Rattle.interleaving_core.proofs.places.outlast.Goals as goal

pub loop-at-preserved : goal.loop-at-preserved
loop-at-preserved c =
    let goes = option_map (outlasting c.args.journal.now) in
    rw c.outlast.ensures (map_over_more goes c.args.seats.now c.loop-at.seats c.loop-at.at-index _
    c.loop-at-test.true c.loop-at.invariant (search rules))
