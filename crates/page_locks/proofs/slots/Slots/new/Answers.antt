use Rattle.std.proofs.Common.{arith, ◌≡◌}
use Rattle.page_locks.specs.declared.slot.TheConstants.{SLOTS}
use Rattle.page_locks.proofs.SlotLemmas.{holders_of-empty}
use Rattle.page_locks.proofs.slots.Slots.new.Goals as goal

-- every slot is free
pub returns : goal.returns
returns c = λ name.
    let many : c.loop.counter ≡ SLOTS = omega arith in
    rw (c.loop.invariant, many) (holders_of-empty SLOTS name)
