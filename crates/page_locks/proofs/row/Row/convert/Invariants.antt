use Rattle.std.proofs.Common.{◌≡◌, ◌++◌, drop, take}
use Rattle.page_locks.specs.Locks.{converted}
use Rattle.page_locks.proofs.row.Row.convert.Given as goal

-- what the loop has passed is converted, and what is left is as it was
abbrev pub invariant-loop-lock : goal.invariant-loop-lock
invariant-loop-lock l =
    let before = l.initial.lock-items in
    l.lock-items ≡ converted (take l.lock-index before) l.name l.kind ++ drop l.lock-index before
