use Rattle.std.proofs.Common.{rules, ◌∙◌, ◌<◌, length, sym}
use Rattle.queue_commands.proofs.TableLemmas.{no_queue}
use Rattle.queue_commands.proofs.ObjectLemmas.{push-queue}
use Rattle.queue_commands.proofs.objects.queue_objects.Goals.{in-Some+in_ok-value+in_ok-push, in_default}
use Rattle.queue_commands.proofs.objects.queue_objects.Goals as goal

-- the object of the next queue was put; there is a queue at each place
pub loop-place-preserved : goal.loop-place-preserved
loop-place-preserved c =
    let queues = c.args.system.now.queues in
    let before = c.loop-place.values.items in
    let place = c.loop-place.place in
    let below : place < length queues = search rules in
    elim c.match-info.branch [
      | in-Some+in_ok-value+in_ok-push w ↦
          rw w.values-is (push-queue before w.push.new.self.items w.in_ok-value.value queues place w.in-Some.info
          (sym c.info.ensures ∙ w.in-Some.is) c.loop-place.invariant w.in_ok-push.ensures.items w.in_ok-value.ensures)
      | in_default w ↦ absurd (no_queue queues place below (sym c.info.ensures ∙ w.in_default.is))
    ]
