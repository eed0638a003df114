use Rattle.std.proofs.Common.{◌≡◌, ◌≤◌}
use Rattle.xsi_inquiry.specs.Slots.{writes_left}
use Rattle.xsi_inquiry.proofs.slots.next_write.Given as goal

-- the slots before this one are empty
abbrev pub invariant-loop-slot : goal.invariant-loop-slot
invariant-loop-slot g l =
    let plan = g.I.Inquiry.plan l.arguments l.inquiry in
    (l.from ≤ l.slot) × (writes_left plan l.from ≡ writes_left plan l.slot)
