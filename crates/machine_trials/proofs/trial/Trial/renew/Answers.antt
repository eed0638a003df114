-- All seats are idle again.
use Rattle.page_locks.specs.declared.lock_table.TheConstants.{MAX_SEATS}
use Rattle.machine_trials.proofs.SeatLemmas.{IsTrial-idle}
use Rattle.machine_trials.proofs.trial.Trial.renew.Goals as goal

pub invariant_of-self : goal.invariant_of-self
invariant_of-self g c =
    IsTrial-idle c.self.inside.pool c.in-Ok.locks c.in-Ok-idle_seats.seats.items MAX_SEATS c.self.invariant.ready
    c.in-Ok.ensures c.in-Ok-idle_seats.ensures
