-- The records so far.
use Rattle.std.proofs.Common.{◌≡◌, ◌+◌, length, take}
use Rattle.std.specs.List.{flat_map}
use Rattle.type_chains.specs.Image.{queue_records}
use Rattle.file_check.proofs.compared.count_of.Given as goal

abbrev pub invariant-loop-place : goal.invariant-loop-place
invariant-loop-place l = l.count ≡ 1 + length (flat_map queue_records (take l.place l.system.queues))
