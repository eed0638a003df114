use Rattle.std.proofs.Common.{◌≡◌, drop}
use Rattle.page_locks.specs.Locks.{kind_of}
use Rattle.page_locks.proofs.row.Row.kind_of.Given as goal

-- what is left has the name as all have it
abbrev pub invariant-loop-lock : goal.invariant-loop-lock
invariant-loop-lock l = kind_of (drop l.lock-index l.lock-items) l.name ≡ kind_of l.lock-items l.name
