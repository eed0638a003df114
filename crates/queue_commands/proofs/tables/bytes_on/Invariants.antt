-- The bytes of the queues so far were added.
use Rattle.std.proofs.Common.{◌≡◌, take}
use Rattle.std.specs.List.{sum_by}
use Rattle.queue_commands.specs.Tables.{bytes_of}
use Rattle.queue_commands.proofs.tables.bytes_on.Given as goal

abbrev pub invariant-loop-place : goal.invariant-loop-place
invariant-loop-place l = l.bytes ≡ sum_by bytes_of (take l.place l.system.queues)
