-- A value of another length is no older Queue's.
use Rattle.std.proofs.Common.{◌≡◌, length, arith}
use Rattle.std.proofs.lemmas.Bool.Decides.{nat_tests}
use Rattle.queue_records.proofs.Lengths.{older_queue_length}
use Rattle.queue_records.proofs.record.Record.is_spelled_older.Goals as goal

pub returns-else-value-eq-OLDER_QUEUE_BYTES : goal.returns-else-value-eq-OLDER_QUEUE_BYTES
returns-else-value-eq-OLDER_QUEUE_BYTES c = (
  λ t.
      let is : length c.args.value.now ≡ 81 = grind (arith, nat_tests, t) in
      absurd (c.if-value-eq-OLDER_QUEUE_BYTES.false is),
  λ spells. absurd (c.if-value-eq-OLDER_QUEUE_BYTES.false
      (older_queue_length c.args.self.now c.in-Queue.field-0 c.args.value.now c.in-Queue.is spells)),
)
