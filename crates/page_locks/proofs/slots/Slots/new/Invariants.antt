use Rattle.std.proofs.Common.{◌≡◌, replicate}
use Rattle.page_locks.specs.Probing.{free_slot}
use Rattle.page_locks.proofs.slots.Slots.new.Given as goal

abbrev pub invariant-loop : goal.invariant-loop
invariant-loop l = l.slots.items ≡ replicate l.counter free_slot
