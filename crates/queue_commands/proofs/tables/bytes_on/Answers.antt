use Rattle.std.proofs.Common.{rules, ◌<◌, length}
use Rattle.queue_commands.proofs.TableLemmas.{bytes-more}
use Rattle.queue_commands.proofs.tables.bytes_on.Goals as goal

-- all bytes of a lawful system are few
pub overflow_add-bytes : goal.overflow_add-bytes
overflow_add-bytes c =
    let system = c.args.system.now in
    let below : c.loop-place.place < length system.queues = search rules in
    rw (c.loop-place.invariant, c.total_bytes.ensures) (record {
      fits = bytes-more system c.keeps_limits.ensures c.loop-place.place c.queue.result.now below c.queue.ensures;
    })
