-- The frames so far are taken.
use Rattle.std.proofs.Common.{ℕ, ◌<◌}
use Rattle.buffer_pool.specs.Table.{IsTaken}
use Rattle.buffer_pool.proofs.table.Table.first_free.Given as goal

abbrev pub invariant-loop-frame : goal.invariant-loop-frame
invariant-loop-frame l = (f : ℕ) → f < l.frame → IsTaken l.self f
