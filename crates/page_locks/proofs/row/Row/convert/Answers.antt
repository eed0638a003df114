use Rattle.std.proofs.Common.{rules}
use Rattle.std.proofs.lemmas.List.Edits.{map_over_more}
use Rattle.page_locks.specs.Locks.{in_kind}
use Rattle.page_locks.proofs.row.Row.convert.Goals as goal

-- the loop writes over each lock what it becomes
pub loop-lock-preserved : goal.loop-lock-preserved
loop-lock-preserved c =
    let turned = in_kind c.args.name c.args.kind in
    let before = c.deref_mut-lock-items.result.now in
    rw c.convert.ensures (map_over_more turned before c.loop-lock.lock-items c.loop-lock.lock-index _
    c.loop-lock-test.true c.loop-lock.invariant (search rules))
