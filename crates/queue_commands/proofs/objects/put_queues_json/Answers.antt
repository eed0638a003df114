use Rattle.std.proofs.Common.{◌∙◌, ap}
use Rattle.queue_commands.specs.Json.{queues_data, queues_of}
use Rattle.queue_commands.proofs.ObjectLemmas.{queues_plain}
use Rattle.queue_commands.proofs.objects.put_queues_json.Goals as goal

pub returns : goal.returns
returns c = c.put_object.ensures (queues_data c.args.system.now)
    (c.in_ok-value.ensures ∙ ap queues_of c.in_ok-queues.ensures) (queues_plain c.args.system.now)
