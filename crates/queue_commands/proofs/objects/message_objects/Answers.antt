use Rattle.std.proofs.Common.{rules, ◌<◌, length}
use Rattle.queue_commands.proofs.ObjectLemmas.{push-message}
use Rattle.queue_commands.proofs.objects.message_objects.Goals as goal

-- the object of the next message was put
pub loop-place-preserved : goal.loop-place-preserved
loop-place-preserved c =
    let messages = c.args.messages.now in
    let place = c.loop-place.place in
    let below : place < length messages = search rules in
    push-message c.loop-place.values.items c.push.new.self.items c.in_ok-value.value messages place c.get.result.now
    below c.get.ensures c.loop-place.invariant c.in_ok-push.ensures.items c.in_ok-value.ensures
