-- The Type comes before the first message of it.
use Rattle.std.proofs.Common.{◌≡◌, ◌≤◌, ◌+◌, ◌*◌, suc, Option, IfSome, length, refl, subst, arith}
use Rattle.std.specs.List.{Contains}
use Rattle.queue_records.specs.declared.record.Record.{Record}
use Rattle.queue_records.specs.declared.record.Record.TheVariants as records
use Rattle.queue_records.specs.declared.type_entry.TypeEntry.{TypeEntry}
use Rattle.type_chains.specs.Image.{type_records}
use Rattle.migration.specs.Filling.{Puts, turn_of}
use Rattle.migration.proofs.PartLemmas.{typed_in}
use Rattle.migration.proofs.QueueLemmas.{if_err, in_range, later_filling, next_open, next_put, next_told, on_ok}
use Rattle.migration.proofs.writer.insert_type.Goals as goal

pub returns-in_default-clause-put : goal.returns-in_default-clause-put
returns-in_default-clause-put g c = λ s q turn start x.
    let before = x.before in
    later_filling (g.K.PseudoKey.of_key c.args.keys.now) s q turn (3 + 2 * c.args.serial) start c.args.pool.now
    (omega (arith, before)) x.filling

pub returns-then-entry-serial-clause-put : goal.returns-then-entry-serial-clause-put
returns-then-entry-serial-clause-put g c = λ s q turn start x.
    let before = x.before in
    later_filling (g.K.PseudoKey.of_key c.args.keys.now) s q turn (3 + 2 * c.args.serial) start c.args.pool.now
    (omega (arith, before)) x.filling

pub returns-clause-put : goal.returns-clause-put
returns-clause-put g c = λ s q turn start x.
    let hash = g.K.PseudoKey.of_key c.args.keys.now in
    let old = c.args.pool.now in
    let e : TypeEntry = c.in-Some.entry in
    let r : Record = records.Type e in
    let test = c.if-entry-serial.false in
    let same : e.first ≡ c.args.serial = omega (arith, test) in
    let has = typed_in q r (subst (λ (o : Option TypeEntry). IfSome o (λ (t : TypeEntry).
    Contains (type_records q) (records.Type t))) c.in-Some.is x.its) in
    let before = x.before in
    let turns : turn ≤ 2 + 2 * e.first = omega (arith, before, same) in
    on_ok c.insert.result
    (λ (puts : Puts hash r old c.insert.new.pool).
    later_filling hash s q (suc (turn_of r)) (3 + 2 * c.args.serial) start c.insert.new.pool (omega (arith, same))
    (next_put hash s x.lawful q x.stands r has turn start old turns x.filling c.insert.new.pool puts))
    (c.insert.ensures.put x.filling.part.rest
    (next_open hash s x.lawful q x.stands r has turn start old turns x.filling))

pub returns-clause-told : goal.returns-clause-told
returns-clause-told g c = λ s q turn start x.
    let hash = g.K.PseudoKey.of_key c.args.keys.now in
    let old = c.args.pool.now in
    let e : TypeEntry = c.in-Some.entry in
    let r : Record = records.Type e in
    let test = c.if-entry-serial.false in
    let same : e.first ≡ c.args.serial = omega (arith, test) in
    let has = typed_in q r (subst (λ (o : Option TypeEntry). IfSome o (λ (t : TypeEntry).
    Contains (type_records q) (records.Type t))) c.in-Some.is x.its) in
    let before = x.before in
    let turns : turn ≤ 2 + 2 * e.first = omega (arith, before, same) in
    if_err c.insert.result
    (next_told hash s x.lawful q x.stands r has turn start old turns x.filling (length old.images) refl)
    (c.insert.ensures.told (in_range hash s x.lawful q x.stands r has) x.filling.part.rest
    (next_open hash s x.lawful q x.stands r has turn start old turns x.filling))
