-- A value of another length is completed to none of today's.
use Rattle.queue_records.proofs.Lengths.{completes_queue}
use Rattle.queue_records.proofs.queue_entry.QueueEntry.decode_older.Goals as goal

pub returns-then-value-ne-OLDER_QUEUE_BYTES-clause-only :
    goal.returns-then-value-ne-OLDER_QUEUE_BYTES-clause-only
returns-then-value-ne-OLDER_QUEUE_BYTES-clause-only c = λ queue spells.
    absurd (c.if-value-ne-OLDER_QUEUE_BYTES.true (completes_queue queue c.args.value.now spells.spelled))
