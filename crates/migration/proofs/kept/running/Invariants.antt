-- The queues so far were copied.
use Rattle.std.proofs.Common.{◌≡◌, take}
use Rattle.migration.proofs.kept.running.Given as goal

abbrev pub invariant-loop-place : goal.invariant-loop-place
invariant-loop-place l = l.queues.items ≡ take l.place l.system.queues
