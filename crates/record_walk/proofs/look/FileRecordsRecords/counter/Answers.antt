-- What is found at its key is the Counter.
use Rattle.std.proofs.Common.{◌≡◌, Some, sym, ap, ◌∙◌}
use Rattle.queue_records.specs.declared.record.Record.TheVariants as records
use Rattle.record_walk.proofs.ValueLemmas.{answers_in, found_is}
use Rattle.record_walk.proofs.look.FileRecordsRecords.counter.Goals as goal

pub returns-in-Some-Counter-clause-ok : goal.returns-in-Some-Counter-clause-ok
returns-in-Some-Counter-clause-ok g c = λ is other h.
    let same : records.Counter c.in-Some-Counter.counter ≡ records.Counter other =
    sym c.in-Some-Counter.field-0-is
    ∙ found_is _ _ _ _ _ (c.in_ok-counter.ensures.ok _ (answers_in _ _ _ _ _ c.layout-layout.ensures
    (c.in_ok-page.ensures.ok is))) c.in-Some-Counter.is
    (sym c.counter_key-key.ensures) h in
    let it : c.in-Some-Counter.counter ≡ other = cc in
    ap (λ x. Some x) it
