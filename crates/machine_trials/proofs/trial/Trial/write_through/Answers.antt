-- The seat has begun, and holds behind its steps what its task says.
use Rattle.std.proofs.Common.{rules, ◌≡◌, suc, ◌-◌, ◌<◌, length, Some, slice_get}
use Rattle.machine_trials.proofs.SeatLemmas.{Holds-at, IsTrial-set, task_read}
use Rattle.machine_trials.proofs.trial.Trial.write_through.Goals as goal

pub write_through-requires-clause-holds : goal.write_through-requires-clause-holds
write_through-requires-clause-holds g c =
    let its : c.args.seat ≡ suc (c.args.seat - 1) = search rules in
    let within : c.args.seat - 1 < length c.self.inside.seats.items = search rules in
    let task : c.index_mut.result.now ≡ Some c.in_ok-task.task.now = search rules in
    let at : slice_get c.self.inside.seats.items (c.args.seat - 1) ≡ Some (Some c.in_ok-task.task.now) =
    task_read c.self.inside.seats.items (c.args.seat - 1) c.index_mut.result.now c.in_ok-task.task.now within
    c.index_mut.ensures.value task
    in
    Holds-at c.self.inside.pool c.self.inside.locks c.self.inside.seats.items c.self.invariant (c.args.seat - 1)
    c.args.seat (Some c.in_ok-task.task.now) its at

pub invariant_of-self-2 : goal.invariant_of-self-2
invariant_of-self-2 g c =
    let its : c.args.seat ≡ suc (c.args.seat - 1) = search rules in
    let within : c.args.seat - 1 < length c.self.inside.seats.items = search rules in
    IsTrial-set c.self.inside.pool c.self.inside.locks c.self.inside.seats.items c.self.invariant (c.args.seat - 1)
    c.args.seat (Some c.write_through.new.self) its c.write_through.new.pool c.self.inside.locks
    c.write_through.ensures.ready within c.write_through.ensures.follows
