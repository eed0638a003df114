-- What is found at its key is the Queue.
use Rattle.std.proofs.Common.{◌≡◌, Some, sym, ap, ◌∙◌}
use Rattle.queue_records.specs.declared.record.Record.TheVariants as records
use Rattle.queue_records.specs.Keys.{key_of_queue}
use Rattle.record_walk.proofs.ValueLemmas.{answers_in, found_is}
use Rattle.record_walk.proofs.look.FileRecordsRecords.queue.Goals as goal

pub returns-in-Some-Queue-clause-ok : goal.returns-in-Some-Queue-clause-ok
returns-in-Some-Queue-clause-ok g c = λ is other h its.
    let same : records.Queue c.in-Some-Queue.queue ≡ records.Queue other =
    sym c.in-Some-Queue.field-0-is
    ∙ found_is _ _ _ _ _ (c.in_ok-queue.ensures.ok _ (answers_in _ _ _ _ _ c.layout-layout.ensures
    (c.in_ok-page.ensures.ok is))) c.in-Some-Queue.is
    (ap key_of_queue its ∙ sym c.queue_key-key.ensures) h in
    let it : c.in-Some-Queue.queue ≡ other = cc in
    ap (λ x. Some x) it
