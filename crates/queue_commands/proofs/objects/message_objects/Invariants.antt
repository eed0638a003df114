-- There is an object for each of the messages so far.
use Rattle.std.proofs.Common.{◌≡◌, map, take}
use Rattle.serde_json.specs.View.{view}
use Rattle.queue_commands.specs.Json.{message_data}
use Rattle.queue_commands.proofs.objects.message_objects.Given as goal

abbrev pub invariant-loop-place : goal.invariant-loop-place
invariant-loop-place l = map view l.values.items ≡ map message_data (take l.place l.messages)
