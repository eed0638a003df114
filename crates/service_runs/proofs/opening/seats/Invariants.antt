-- The lines of the seats so far.
use Rattle.service_runs.specs.Desks.{AreFresh}
use Rattle.service_runs.proofs.opening.seats.Given as goal

abbrev pub invariant-loop-place : goal.invariant-loop-place
invariant-loop-place l = AreFresh l.script.lines l.place l.seats.items
