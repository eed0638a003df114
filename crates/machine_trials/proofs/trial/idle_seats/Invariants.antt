use Rattle.std.specs.Prelude.{◌≡◌, replicate, None}
use Rattle.machine_trials.proofs.trial.idle_seats.Given as goal

-- those so far are idle
abbrev pub invariant-loop : goal.invariant-loop
invariant-loop l = l.seats.items ≡ replicate l.counter None
