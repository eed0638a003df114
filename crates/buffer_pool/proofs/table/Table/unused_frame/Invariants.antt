-- The search moves the hand and the marks alone.
use Rattle.std.proofs.Common.{◌≡◌}
use Rattle.buffer_pool.proofs.table.Table.unused_frame.Given as goal

abbrev pub invariant-loop : goal.invariant-loop
invariant-loop l = l.self ≡ l.fn.self
