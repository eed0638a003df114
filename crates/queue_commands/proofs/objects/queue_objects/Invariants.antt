-- There is an object for each of the queues so far.
use Rattle.std.proofs.Common.{◌≡◌, map, take}
use Rattle.serde_json.specs.View.{view}
use Rattle.queue_commands.specs.Json.{queue_data}
use Rattle.queue_commands.proofs.objects.queue_objects.Given as goal

abbrev pub invariant-loop-place : goal.invariant-loop-place
invariant-loop-place l = map view l.values.items ≡ map queue_data (take l.place l.system.queues)
