-- The records of a queue are put in the order of their turns.
use Rattle.std.proofs.Common.{◌≡◌, ◌≤◌, ◌+◌, ◌*◌, IfErr, length, sym, ap, subst, ◌∙◌, arith}
use Rattle.std.specs.List.{Contains}
use Rattle.buffer_pool.proofs.TransferLemmas.{handed_on}
use Rattle.lone_access.proofs.KeepingLemmas.{keeps_on}
use Rattle.queue_model.specs.declared.message.Message.{Message}
use Rattle.queue_records.specs.declared.message_entry.MessageEntry.{MessageEntry}
use Rattle.queue_records.specs.declared.queue_entry.QueueEntry.{QueueEntry}
use Rattle.queue_records.specs.declared.record.Record.{Record}
use Rattle.queue_records.specs.declared.record.Record.TheVariants as records
use Rattle.type_chains.specs.Image.{queue_records}
use Rattle.migration.specs.Filling.{IsFilling, MayNotFill}
use Rattle.migration.proofs.PartLemmas.{queue_in, sent_in}
use Rattle.migration.proofs.QueueLemmas.{ended_filling, first_message, in_range, next_message, next_open, next_put, next_told}
use Rattle.migration.proofs.writer.write_queue.Goals as goal

-- ---- the Queue

pub returns-in_err-insert-clause-told : goal.returns-in_err-insert-clause-told
returns-in_err-insert-clause-told g c = λ s lawful stands free.
    let hash = g.K.PseudoKey.of_key c.args.keys.now in
    let q = c.args.queue.now in
    let start = c.args.pool.now in
    let old = c.insert_key.new.pool in
    let r : Record = records.Queue c.in-Some-queue_entry.entry in
    let has : Contains (queue_records q) r = subst (λ (e : QueueEntry). Contains (queue_records q) (records.Queue e))
    (sym c.in-Some-queue_entry.ensures) (queue_in q) in
    let f : IsFilling hash s q 1 start old = c.in_ok-insert_key.ensures.put s lawful stands free in
    handed_on c.from_residual-in_err-insert.result c.in_err-insert.field-0.0 c.from_residual-in_err-insert.ensures.1
    (λ x. IfErr x (MayNotFill hash (length start.images) s))
    (next_told hash s lawful q stands r has 1 start old (omega arith) f (length start.images)
    c.in_ok-insert_key.ensures.kept.keeps.as_many c.in_err-insert.field-0.0
    (c.in_err-insert.ensures.told (in_range hash s lawful q stands r has) f.part.rest
    (next_open hash s lawful q stands r has 1 start old (omega arith) f)))

-- ---- its messages

pub loop-place-init : goal.loop-place-init
loop-place-init g c = record {
  alone = c.in_ok-insert.ensures.alone;
  keeps = keeps_on _ _ _ c.in_ok-insert_key.ensures.kept.keeps c.in_ok-insert.ensures.kept.keeps;
  goes = λ s lawful stands free.
      let hash = g.K.PseudoKey.of_key c.args.keys.now in
      let q = c.args.queue.now in
      let start = c.args.pool.now in
      let old = c.insert_key.new.pool in
      let r : Record = records.Queue c.in-Some-queue_entry.entry in
      let has : Contains (queue_records q) r = subst (λ (e : QueueEntry). Contains (queue_records q) (records.Queue e))
      (sym c.in-Some-queue_entry.ensures) (queue_in q) in
      let f : IsFilling hash s q 1 start old = c.in_ok-insert_key.ensures.put s lawful stands free in
      first_message hash s q start c.insert.new.pool
      (next_put hash s lawful q stands r has 1 start old (omega arith) f c.insert.new.pool
      (c.in_ok-insert.ensures.put f.part.rest (next_open hash s lawful q stands r has 1 start old (omega arith) f)));
}

pub returns-in_err-insert_type-clause-told : goal.returns-in_err-insert_type-clause-told
returns-in_err-insert_type-clause-told g c = λ s lawful stands free.
    let hash = g.K.PseudoKey.of_key c.args.keys.now in
    let q = c.args.queue.now in
    let start = c.args.pool.now in
    let u = c.loop-place.invariant.goes s lawful stands free in
    let m : Message = c.get-message.result.now in
    let test = c.loop-place-test.true in
    let end = c.len-place-end.ensures in
    let before : u.turn ≤ 2 + 2 * m.serial = subst (λ (x : Message). u.turn ≤ 2 + 2 * x.serial)
    (sym c.get-message.ensures) (u.before c.loop-place.place m (omega arith) (omega (arith, test, end))) in
    handed_on c.from_residual-in_err-insert_type.result c.in_err-insert_type.field-0.0
    c.from_residual-in_err-insert_type.ensures.1 (λ x. IfErr x (MayNotFill hash (length start.images) s))
    (subst (λ n. MayNotFill hash n s c.in_err-insert_type.field-0.0) c.loop-place.invariant.keeps.as_many
    (c.in_err-insert_type.ensures.told s q u.turn start (record {
      lawful = lawful;
      stands = stands;
      its = c.type_entry-first.ensures.stands;
      filling = u.filling;
      before = before;
    })))

pub returns-in_err-insert-2-clause-told : goal.returns-in_err-insert-2-clause-told
returns-in_err-insert-2-clause-told g c = λ s lawful stands free.
    let hash = g.K.PseudoKey.of_key c.args.keys.now in
    let q = c.args.queue.now in
    let start = c.args.pool.now in
    let old = c.insert_type.new.pool in
    let u = c.loop-place.invariant.goes s lawful stands free in
    let m : Message = c.get-message.result.now in
    let test = c.loop-place-test.true in
    let end = c.len-place-end.ensures in
    let before : u.turn ≤ 2 + 2 * m.serial = subst (λ (x : Message). u.turn ≤ 2 + 2 * x.serial)
    (sym c.get-message.ensures) (u.before c.loop-place.place m (omega arith) (omega (arith, test, end))) in
    let f : IsFilling hash s q (3 + 2 * m.serial) start old = c.in_ok-insert_type.ensures.put s q u.turn start (record {
      lawful = lawful;
      stands = stands;
      its = c.type_entry-first.ensures.stands;
      filling = u.filling;
      before = before;
    }) in
    let r : Record = records.Message c.message_entry.result in
    let has = sent_in q r c.message_entry.ensures.stands in
    let same : c.message_entry.result.serial ≡ m.serial =
    ap (λ (e : MessageEntry). e.serial) (c.message_entry.ensures.which m)
    ∙ ap (λ (x : Message). x.serial) (sym c.get-message.ensures) in
    let turns : 3 + 2 * m.serial ≤ 3 + 2 * c.message_entry.result.serial = omega (arith, same) in
    handed_on c.from_residual-in_err-insert-2.result c.in_err-insert-2.field-0.0
    c.from_residual-in_err-insert-2.ensures.1 (λ x. IfErr x (MayNotFill hash (length start.images) s))
    (next_told hash s lawful q stands r has (3 + 2 * m.serial) start old turns f (length start.images)
    (c.in_ok-insert_type.ensures.kept.keeps.as_many ∙ c.loop-place.invariant.keeps.as_many) c.in_err-insert-2.field-0.0
    (c.in_err-insert-2.ensures.told (in_range hash s lawful q stands r has) f.part.rest
    (next_open hash s lawful q stands r has (3 + 2 * m.serial) start old turns f)))

pub loop-place-preserved : goal.loop-place-preserved
loop-place-preserved g c = record {
  alone = c.in_ok-insert-2.ensures.alone;
  keeps = keeps_on _ _ _ (keeps_on _ _ _ c.loop-place.invariant.keeps c.in_ok-insert_type.ensures.kept.keeps)
      c.in_ok-insert-2.ensures.kept.keeps;
  goes = λ s lawful stands free.
      let hash = g.K.PseudoKey.of_key c.args.keys.now in
      let q = c.args.queue.now in
      let start = c.args.pool.now in
      let old = c.insert_type.new.pool in
      let u = c.loop-place.invariant.goes s lawful stands free in
      let m : Message = c.get-message.result.now in
      let test = c.loop-place-test.true in
      let end = c.len-place-end.ensures in
      let before : u.turn ≤ 2 + 2 * m.serial = subst (λ (x : Message). u.turn ≤ 2 + 2 * x.serial)
      (sym c.get-message.ensures) (u.before c.loop-place.place m (omega arith) (omega (arith, test, end))) in
      let f : IsFilling hash s q (3 + 2 * m.serial) start old =
      c.in_ok-insert_type.ensures.put s q u.turn start (record {
        lawful = lawful;
        stands = stands;
        its = c.type_entry-first.ensures.stands;
        filling = u.filling;
        before = before;
      }) in
      let r : Record = records.Message c.message_entry.result in
      let has = sent_in q r c.message_entry.ensures.stands in
      let same : c.message_entry.result.serial ≡ m.serial =
      ap (λ (e : MessageEntry). e.serial) (c.message_entry.ensures.which m)
      ∙ ap (λ (x : Message). x.serial) (sym c.get-message.ensures) in
      let turns : 3 + 2 * m.serial ≤ 3 + 2 * c.message_entry.result.serial = omega (arith, same) in
      next_message hash s q c.loop-place.place start c.insert-in-loop-place.new.pool m c.requires.lawful
      c.get-message.ensures (omega (arith, test, end)) c.message_entry.result.serial same
      (next_put hash s lawful q stands r has (3 + 2 * m.serial) start old turns f c.insert-in-loop-place.new.pool
      (c.in_ok-insert-2.ensures.put f.part.rest
      (next_open hash s lawful q stands r has (3 + 2 * m.serial) start old turns f)));
}

pub returns-clause-put : goal.returns-clause-put
returns-clause-put g c = λ s lawful stands free.
    let u = c.loop-place.invariant.goes s lawful stands free in
    ended_filling (g.K.PseudoKey.of_key c.args.keys.now) s c.args.queue.now u.turn c.args.pool.now c.loop-place.pool
    u.filling
