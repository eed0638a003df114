-- All seats are idle, and the pool has frames enough.
use Rattle.std.proofs.Common.{arith, ◌≡◌, ◌∙◌, ap, max}
use Rattle.std.proofs.lemmas.Int.{clamps}
use Rattle.buffer_pool.specs.Pool.{PoolState}
use Rattle.file_pages.specs.Files.{IsReady}
use Rattle.page_locks.specs.declared.lock_table.TheConstants.{MAX_SEATS}
use Rattle.machine_trials.proofs.SeatLemmas.{IsTrial-idle}
use Rattle.machine_trials.proofs.trial.Trial.open.Goals as goal

pub invariant_of-result : goal.invariant_of-result
invariant_of-result g c =
    let frames : c.in-Ok-open.pool.frames ≡ max c.args.frames 4 =
    ap (λ (s : PoolState). s.frames) c.in-Ok-open.ensures.ok ∙ c.max.ensures
    in
    let ready : IsReady c.in-Ok-open.pool =
    record { rest = c.in-Ok-open.ensures.rest; frames = omega (arith, clamps, frames) }
    in
    IsTrial-idle c.in-Ok-open.pool c.in-Ok.locks c.in-Ok-idle_seats.seats.items MAX_SEATS ready
    c.in-Ok.ensures c.in-Ok-idle_seats.ensures
