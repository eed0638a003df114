-- A seat holds what its work says after a step. Where that has ended it gives the lock of its record back, and no more
-- is said of its row.
use Rattle.std.proofs.Common.{rules}
use Rattle.page_locks.specs.Table.{row_of}
use Rattle.machine_trials.specs.Seats.{HoldsGuard, guarded, work_locks}
use Rattle.machine_trials.proofs.SeatLemmas.{Follows-released, Follows-stepped}
use Rattle.machine_trials.proofs.task.Task.step.Goals as goal

pub returns-then-matches-clause-follows : goal.returns-then-matches-clause-follows
returns-then-matches-clause-follows g c =
    let held : HoldsGuard c.args.self.now c.args.self.now.guard (row_of c.args.locks.now c.args.seat) = c.requires.holds
    in
    let holds = rw c.in-Some.is at held in
    Follows-released c.args.locks.now c.step-did.new.locks c.release.new.self c.args.seat
    (work_locks c.step-did.new.self (guarded c.in-Some.guard)) c.step-did.new.self c.args.self.now.value
    c.in-Some.guard (c.step-did.ensures.row (guarded c.in-Some.guard) holds.guard holds.locks) c.release.ensures

pub returns-else-matches-clause-follows : goal.returns-else-matches-clause-follows
returns-else-matches-clause-follows g c =
    let held : HoldsGuard c.args.self.now c.args.self.now.guard (row_of c.args.locks.now c.args.seat) = c.requires.holds
    in
    let holds = rw c.in-Some.is at held in
    Follows-stepped c.args.locks.now c.step-did.new.locks c.args.seat c.step-did.new.self c.args.self.now.value
    c.args.self.now.guard c.in-Some.guard _ c.in-Some.is holds.guard holds.few (search rules) c.step-did.ensures.lent
    (c.step-did.ensures.row (guarded c.in-Some.guard) holds.guard holds.locks)
