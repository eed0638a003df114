-- A seat that held nothing was granted the lock of a record.
use Rattle.std.proofs.Common.{arith, rules, ◌≡◌, ◌≤◌}
use Rattle.std.proofs.lemmas.Int.{clamps}
use Rattle.page_locks.specs.declared.lock.LockKind.TheVariants.{Exclusive}
use Rattle.page_locks.specs.Table.{with_lock}
use Rattle.machine_trials.specs.declared.task.Value.{Value}
use Rattle.machine_trials.specs.declared.task.TheConstants.{MAX_VALUE_BYTES}
use Rattle.machine_trials.proofs.SeatLemmas.{Follows-begun}
use Rattle.machine_trials.proofs.task.Task.begin.Goals as goal

pub returns : goal.returns
returns c =
    let granted :
    c.try_grant.new.self ≡ with_lock c.args.locks.now c.args.seat c.guard_of-guard.result Exclusive =
    search rules
    in
    let lent : Value = record { mark = c.args.value.mark; bytes = c.min.result } in
    let few : lent.bytes ≤ MAX_VALUE_BYTES = omega (arith, clamps, c.min.ensures) in
    Follows-begun c.args.locks.now c.try_grant.new.self c.args.seat c.args.work lent
    c.guard_of-guard.result c.requires.idle c.guard_of-guard.ensures few c.requires.begun granted
