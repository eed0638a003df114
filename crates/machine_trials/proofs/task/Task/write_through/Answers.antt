-- What a seat holds is what its work says, also behind these steps.
use Rattle.std.proofs.Common.{refl}
use Rattle.page_locks.specs.Table.{row_of}
use Rattle.machine_trials.specs.Seats.{HoldsGuard, guarded}
use Rattle.machine_trials.proofs.SeatLemmas.{Follows-stepped}
use Rattle.machine_trials.proofs.task.Task.write_through.Goals as goal

pub returns-clause-follows : goal.returns-clause-follows
returns-clause-follows g c =
    let held : HoldsGuard c.args.self.now c.args.self.now.guard (row_of c.args.locks.now c.args.seat) = c.requires.holds
    in
    let holds = rw c.in-Some.is at held in
    Follows-stepped c.args.locks.now c.args.locks.now c.args.seat c.write_through.new.self c.args.self.now.value
    c.args.self.now.guard c.in-Some.field-0 c.args.self.now.value.bytes c.in-Some.is holds.guard holds.few refl
    (c.write_through.ensures.lent c.args.self.now.value.bytes holds.lent)
    (c.write_through.ensures.row (guarded c.in-Some.field-0) holds.guard holds.locks)
