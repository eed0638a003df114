-- There is an object for each of the buckets so far.
use Rattle.std.proofs.Common.{◌≡◌, map, take}
use Rattle.serde_json.specs.View.{view}
use Rattle.msgq_cli.specs.Maps.{bucket_data}
use Rattle.msgq_cli.proofs.map_json.bucket_objects.Given as goal

abbrev pub invariant-loop-bucket : goal.invariant-loop-bucket
invariant-loop-bucket l = map view l.values.items ≡ map bucket_data (take l.bucket-index l.buckets)
