-- The callers of the seats so far.
use Rattle.std.proofs.Common.{◌≡◌}
use Rattle.replays.specs.Replays.{callers_of}
use Rattle.service_runs.proofs.opening.callers.Given as goal

abbrev pub invariant-loop-place : goal.invariant-loop-place
invariant-loop-place l = l.made.items ≡ callers_of l.script.ids l.place
