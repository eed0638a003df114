use Rattle.queue_commands.specs.Json.{messages_data}
use Rattle.queue_commands.proofs.ObjectLemmas.{messages_plain}
use Rattle.queue_commands.proofs.objects.put_messages_json.Goals as goal

pub returns : goal.returns
returns c = c.put_object.ensures (messages_data c.args.info.now c.args.messages.now) c.in_ok-value.ensures
    (messages_plain c.args.info.now c.args.messages.now)
