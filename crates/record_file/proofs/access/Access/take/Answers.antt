-- The value that a find has found is taken whole, and the front of a value with the links set in it. What stands there
-- and suits is refused by a fault of the device alone.
use Rattle.std.proofs.Common.{rules, refl, sym, ap, subst, true, false, ◌∙◌, ℕ, ◌≤◌, List, Option, Some, length, arith}
use Rattle.std.proofs.lemmas.Result.{err_from_is_err_and}
use Rattle.std.proofs.lemmas.List.{length-take-le, take_at}
use Rattle.file_pages.specs.declared.fault.FileFault.TheVariants.{Failed}
use Rattle.record_file.proofs.of_stale_search.CauseLemmas.{no_transfer}
use Rattle.record_file.proofs.ReadLemmas.{copied_whole, front_of, read_fails, short_value, some_of}
use Rattle.record_file.proofs.TakingLemmas.{answer_of_find, front_fails, front_takes, too_short, unread, value_fails, value_takes}
use Rattle.record_file.specs.AccessWords.{RecordKey, SpellsRecord, value_of}
use Rattle.record_file.specs.Readings.{IsReplace, value_on}
use Rattle.record_file.proofs.access.Access.take.Goals as goal

-- ---- a find

pub returns-in_err-copied-in-Find : goal.returns-in_err-copied-in-Find
returns-in_err-copied-in-Find g c =
    let a = c.self.inside in
    let at = sym c.found.ensures ∙ c.in-Some.is ∙ ap (λ (f : Option ℕ). Some (c.in-Some.page, f)) c.in-Some-found.is in
    let finds = answer_of_find a.operation c.in-Find.field-0 c.in-Find.is ∙ at in
    let e = c.in_err-copied-in-Find.ensures in
    let p = err_from_is_err_and c.from_residual.result c.from_residual.ensures.1 in
    rw (← c.self.view_is, p.1, p.2) (value_fails a.operation a.links a.value a.value a.written c.in-Some.page
    c.in-Some-found.len finds c.args.pool.now c.copy_value.new.pool _ false e.reads e.cause
    (λ r sees holds len spells. read_fails c.in-Some.page c.args.pool.now sees (e.fault sees.honest sees.file)))

pub returns-then-len-gt-MAX_VALUE_BYTES : goal.returns-then-len-gt-MAX_VALUE_BYTES
returns-then-len-gt-MAX_VALUE_BYTES g c =
    let a = c.self.inside in
    let at = sym c.found.ensures ∙ c.in-Some.is ∙ ap (λ (f : Option ℕ). Some (c.in-Some.page, f)) c.in-Some-found.is in
    let finds = answer_of_find a.operation c.in-Find.field-0 c.in-Find.is ∙ at in
    let gt = c.if-len-gt-MAX_VALUE_BYTES.true in
    rw (← c.self.view_is) (value_fails a.operation a.links a.value a.value a.written c.in-Some.page c.in-Some-found.len
    finds c.args.pool.now c.copy_value.new.pool Failed true c.in_ok-copied-in-Find.ensures.reads (no_transfer _ _)
    (λ r sees holds len spells. let short = short_value r spells.in_range in absurd (omega (arith, gt, short, len))))

pub returns-then-is_err : goal.returns-then-is_err
returns-then-is_err g c =
    let a = c.self.inside in
    let at = sym c.found.ensures ∙ c.in-Some.is ∙ ap (λ (f : Option ℕ). Some (c.in-Some.page, f)) c.in-Some-found.is in
    let finds = answer_of_find a.operation c.in-Find.field-0 c.in-Find.is ∙ at in
    let fits = c.if-len-gt-MAX_VALUE_BYTES.false in
    rw (← c.self.view_is) (value_fails a.operation a.links a.value a.value a.written c.in-Some.page c.in-Some-found.len
    finds c.args.pool.now c.copy_value.new.pool Failed true c.in_ok-copied-in-Find.ensures.reads (no_transfer _ _)
    (λ r sees holds len spells.
    let copies = c.in_ok-copied-in-Find.ensures.ok sees.honest in
    let here = copied_whole c.in-Some-found.len copies (search rules) (omega (arith, fits)) in
    let whole = some_of _ (value_of r)
    (sym here ∙ sym (ap (value_on c.args.pool.now c.in-Some.page) c.self.invariant.key_is) ∙ holds) in
    let right = c.decode.ensures.only r (subst (λ (v : List ℕ). SpellsRecord r a.key v) (sym whole)
    (subst (λ (key : RecordKey). SpellsRecord r key (value_of r)) c.self.invariant.key_is spells)) in
    search rules))

pub returns-else-is_err : goal.returns-else-is_err
returns-else-is_err g c =
    let a = c.self.inside in
    let at = sym c.found.ensures ∙ c.in-Some.is ∙ ap (λ (f : Option ℕ). Some (c.in-Some.page, f)) c.in-Some-found.is in
    let finds = answer_of_find a.operation c.in-Find.field-0 c.in-Find.is ∙ at in
    let fits = c.if-len-gt-MAX_VALUE_BYTES.false in
    rw (← c.self.view_is, c.set.ensures) (value_takes a.operation a.links a.value _ a.written c.in-Some.page
    c.in-Some-found.len finds c.args.pool.now c.copy_value.new.pool tt c.in_ok-copied-in-Find.ensures.reads
    (length-take-le c.in-Some-found.len c.copy_value.new.room (search rules))
    (λ honest. ap (value_on c.args.pool.now c.in-Some.page) c.self.invariant.key_is
    ∙ copied_whole c.in-Some-found.len (c.in_ok-copied-in-Find.ensures.ok honest) (search rules) (omega (arith, fits))))

-- ---- a relink

pub returns-then-len-bytes : goal.returns-then-len-bytes
returns-then-len-bytes g c =
    let a = c.self.inside in
    let at = sym c.found.ensures ∙ c.in-Some.is ∙ ap (λ (f : Option ℕ). Some (c.in-Some.page, f)) c.in-Some-Some.is-1 in
    let replace = subst IsReplace (sym c.in-Replace.is) tt in
    let less = c.if-len-bytes.true in
    let size = c.front_bytes-bytes.ensures in
    rw (← c.self.view_is, c.in-Some-Some.is-0) (front_fails a.operation c.in-Some-Some.links a.value a.written
    c.in-Some.page c.in-Some-Some.len at replace c.args.pool.now c.args.pool.now Failed a.value
    (unread c.args.pool.now c.requires.ready) (no_transfer _ _)
    (λ r sees such value long. too_short a.operation c.in-Some-Some.links a.value a.written c.in-Some.page
    c.in-Some-Some.len at replace c.args.pool.now c.args.pool.now (omega (arith, less, size)) r such long))

pub returns-in_err-copy_value-in-Some-Some : goal.returns-in_err-copy_value-in-Some-Some
returns-in_err-copy_value-in-Some-Some g c =
    let a = c.self.inside in
    let at = sym c.found.ensures ∙ c.in-Some.is ∙ ap (λ (f : Option ℕ). Some (c.in-Some.page, f)) c.in-Some-Some.is-1 in
    let replace = subst IsReplace (sym c.in-Replace.is) tt in
    let e = c.in_err-copy_value-in-Some-Some.ensures in
    let told = c.from_residual-in_err-copy_value-in-Some-Some in
    let p = err_from_is_err_and told.result told.ensures.1 in
    rw (← c.self.view_is, c.in-Some-Some.is-0, p.1, p.2) (front_fails a.operation c.in-Some-Some.links a.value
    a.written c.in-Some.page c.in-Some-Some.len at replace c.args.pool.now c.copy_value-in-Some-Some.new.pool _ a.value
    e.reads e.cause
    (λ r sees such value long. read_fails c.in-Some.page c.args.pool.now sees (e.fault sees.honest sees.file)))

pub returns-in-Some-2 : goal.returns-in-Some-2
returns-in-Some-2 g c =
    let a = c.self.inside in
    let at = sym c.found.ensures ∙ c.in-Some.is ∙ ap (λ (f : Option ℕ). Some (c.in-Some.page, f)) c.in-Some-Some.is-1 in
    let replace = subst IsReplace (sym c.in-Replace.is) tt in
    let n = c.front_bytes-bytes.result in
    let size = c.front_bytes-bytes.ensures in
    let room = c.copy_value-in-Some-Some.new.room in
    let fits : n ≤ length room = search rules in
    let whole = c.relink.ensures.len ∙ length-take-le n room fits in
    let within = c.if-len-bytes.false in
    rw (← c.self.view_is, c.in-Some-Some.is-0, c.set-in-Some-Some.ensures) (front_takes a.operation
    c.in-Some-Some.links a.value a.written c.in-Some.page c.in-Some-Some.len at replace c.args.pool.now
    c.copy_value-in-Some-Some.new.pool tt _ c.in_ok-copy_value-in-Some-Some.ensures.reads
    (ap length (take_at c.relink.new.front _ n whole) ∙ whole ∙ size) (omega (arith, within, size))
    (λ r honest such holds. front_of c.in-Some-Some.links r n c.relink.new.front _
    (c.in_ok-copy_value-in-Some-Some.ensures.ok honest) such
    (sym (ap (value_on c.args.pool.now c.in-Some.page) c.self.invariant.key_is) ∙ holds) size refl c.relink.ensures.len
    (λ rest is. c.relink.ensures.set r rest such is)))
