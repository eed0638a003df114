use Rattle.std.proofs.Common.{arith}
use Rattle.page_locks.proofs.SpotLemmas.{open_somewhere}
use Rattle.page_locks.proofs.slots.steps_past.Goals as goal

-- the search passes every slot, and so a free one
pub unreachable-requires : goal.unreachable-requires
unreachable-requires c =
    open_somewhere c.args.slots.now c.args.name c.requires.free
    (λ u lt. c.loop-steps.invariant u (omega (arith, lt, c.loop-steps-test.false)))
