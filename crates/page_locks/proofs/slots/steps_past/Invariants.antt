use Rattle.std.proofs.Common.{◌≡◌, ℕ, ◌<◌, false}
use Rattle.page_locks.specs.Probing.{home, after, slot_at, is_open}
use Rattle.page_locks.proofs.slots.steps_past.Given as goal

-- the slots that were passed are not open to the name
abbrev pub invariant-loop-steps : goal.invariant-loop-steps
invariant-loop-steps l =
    (u : ℕ) → u < l.steps → is_open l.name (slot_at l.slots (after (home l.name) u)) ≡ false
