-- The Key is the first record of its queue.
use Rattle.std.proofs.Common.{length, refl, arith}
use Rattle.queue_records.specs.declared.record.Record.{Record}
use Rattle.queue_records.specs.declared.record.Record.TheVariants as records
use Rattle.migration.proofs.QueueLemmas.{begun_filling, if_err, in_range, key_there, next_open, next_put, next_told, on_ok}
use Rattle.migration.proofs.writer.insert_key.Goals as goal

pub returns-in_default-clause-put : goal.returns-in_default-clause-put
returns-in_default-clause-put g c = λ s lawful stands free.
    begun_filling (g.K.PseudoKey.of_key c.args.keys.now) s c.args.queue.now c.args.pool.now free 1

pub returns-clause-put : goal.returns-clause-put
returns-clause-put g c = λ s lawful stands free.
    let hash = g.K.PseudoKey.of_key c.args.keys.now in
    let q = c.args.queue.now in
    let old = c.args.pool.now in
    let r : Record = records.Key (record { key = c.in-Some.key; id = q.id }) in
    let has = key_there q c.in-Some.key c.in-Some.is in
    let f = begun_filling hash s q old free 0 in
    on_ok c.insert.result (next_put hash s lawful q stands r has 0 old old (omega arith) f c.insert.new.pool)
    (c.insert.ensures.put free.part.rest (next_open hash s lawful q stands r has 0 old old (omega arith) f))

pub returns-clause-told : goal.returns-clause-told
returns-clause-told g c = λ s lawful stands free.
    let hash = g.K.PseudoKey.of_key c.args.keys.now in
    let q = c.args.queue.now in
    let old = c.args.pool.now in
    let r : Record = records.Key (record { key = c.in-Some.key; id = q.id }) in
    let has = key_there q c.in-Some.key c.in-Some.is in
    let f = begun_filling hash s q old free 0 in
    if_err c.insert.result
    (next_told hash s lawful q stands r has 0 old old (omega arith) f (length old.images) refl)
    (c.insert.ensures.told (in_range hash s lawful q stands r has) free.part.rest
    (next_open hash s lawful q stands r has 0 old old (omega arith) f))
