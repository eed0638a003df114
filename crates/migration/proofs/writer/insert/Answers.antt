-- An insert of a record whose key has none.
use Rattle.std.proofs.Common.{IfErr, None, Result, refl, ap, sym, ◌∙◌}
use Rattle.bucket_page.specs.declared.record_key.RecordKey.{RecordKey}
use Rattle.buffer_pool.proofs.TransferLemmas.{handed_on}
use Rattle.queue_records.specs.Keys.{guard_of}
use Rattle.record_file.specs.Purposes.{ToInsert}
use Rattle.record_file.specs.Accesses.{AccessView, access_key, access_locks}
use Rattle.migration.specs.Fault.{of_file}
use Rattle.migration.specs.Filling.{MayNotPut}
use Rattle.migration.specs.Writing.{KeepsDevice}
use Rattle.migration.specs.declared.fault.MakingFault.{MakingFault}
use Rattle.migration.proofs.BeginLemmas.{begun_insert, of_device, puts_it, told_put}
use Rattle.migration.proofs.KeepingLemmas.{keeps_failed}
use Rattle.migration.proofs.writer.insert.Goals as goal

pub carry_out-requires-clause-begun : goal.carry_out-requires-clause-begun
carry_out-requires-clause-begun g c = λ before.
    ap (λ (a : AccessView). access_locks a before) c.insert-access.ensures.value

pub carry_out-requires-clause-name : goal.carry_out-requires-clause-name
carry_out-requires-clause-name g c =
    c.guard_of.ensures ∙ sym (ap (λ (a : AccessView). guard_of (access_key a)) c.insert-access.ensures.value)

pub returns-in_err-carry_out-clause-kept : goal.returns-in_err-carry_out-clause-kept
returns-in_err-carry_out-clause-kept g c =
    handed_on c.from_residual.result (of_file c.in_err-carry_out.field-0.0) c.from_residual.ensures.1
    (λ (r : Result Unit MakingFault). KeepsDevice c.args.pool.now c.carry_out.new.pool r)
    (keeps_failed c.args.pool.now c.carry_out.new.pool c.in_err-carry_out.field-0.0 c.in_err-carry_out.ensures.kept
    c.in_err-carry_out.ensures.cause)

pub returns-in_err-carry_out-clause-told : goal.returns-in_err-carry_out-clause-told
returns-in_err-carry_out-clause-told g c = λ range rest none.
    let key = c.of.ensures ∙ ap (λ (key : RecordKey). g.K.PseudoKey.of_key c.args.keys.now key) c.key.ensures in
    let hash = g.K.PseudoKey.of_key c.args.keys.now in
    let fault = of_file c.in_err-carry_out.field-0.0 in
    handed_on c.from_residual.result fault c.from_residual.ensures.1
    (λ r. IfErr r (MayNotPut hash c.args.record.now c.args.pool.now))
    (told_put hash c.args.record.now c.args.pool.now fault (of_device c.in_err-carry_out.field-0.0 _ _
    (c.in_err-carry_out.ensures.told (ToInsert c.args.record.now) None
    (begun_insert hash c.args.record.now _ _ _ c.insert-access.ensures.value c.insert-access.ensures.serves key rest
    none))))

-- it tells no room where its record lacked it
pub returns-then-has_no_room-clause-told : goal.returns-then-has_no_room-clause-told
returns-then-has_no_room-clause-told g c = λ range rest none.
    let key = c.of.ensures ∙ ap (λ (key : RecordKey). g.K.PseudoKey.of_key c.args.keys.now key) c.key.ensures in
    (c.in_ok-carry_out.ensures.put (ToInsert c.args.record.now) None
    (begun_insert (g.K.PseudoKey.of_key c.args.keys.now) c.args.record.now _ _ _ c.insert-access.ensures.value
    c.insert-access.ensures.serves key rest none)).lacks c.args.record.now refl
    (sym c.has_no_room.ensures.full ∙ c.if-has_no_room.true)

pub returns-clause-put : goal.returns-clause-put
returns-clause-put g c = λ rest none.
    let key = c.of.ensures ∙ ap (λ (key : RecordKey). g.K.PseudoKey.of_key c.args.keys.now key) c.key.ensures in
    puts_it (g.K.PseudoKey.of_key c.args.keys.now) c.args.record.now c.args.pool.now c.carry_out.new.access
    c.carry_out.new.pool (c.in_ok-carry_out.ensures.put (ToInsert c.args.record.now) None
    (begun_insert (g.K.PseudoKey.of_key c.args.keys.now) c.args.record.now _ _ _ c.insert-access.ensures.value
    c.insert-access.ensures.serves key rest none))
