use Rattle.std.proofs.Common.{◌≡◌, [], replicate}
use Rattle.page_locks.proofs.lock_table.LockTable.new.Given as goal

abbrev pub invariant-loop : goal.invariant-loop
invariant-loop l = l.rows.items ≡ replicate l.counter []
