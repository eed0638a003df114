-- Each machine's step is that of its operation.
use Rattle.std.proofs.Common.{sym, ap, ◌∙◌, Bool, Some}
use Rattle.record_file.proofs.InsertLemmas.{second_goes_on}
use Rattle.record_file.proofs.KindLemmas.{find_makes, insert_makes, replace_makes}
use Rattle.record_file.proofs.MergeLemmas.{merge_makes, over_makes}
use Rattle.record_file.proofs.PartLemmas.{still_begun}
use Rattle.record_file.proofs.RemovalLemmas.{removal_makes}
use Rattle.record_file.specs.BucketAccesses.{ended_in}
use Rattle.record_file.specs.Deletes.{DeleteView}
use Rattle.machine_trials.proofs.work.step_operation.Goals as goal

pub returns-in-Find : goal.returns-in-Find
returns-in-Find g c =
    rw (c.in-Find.is) (find_makes _ c.args.seat c.args.value.now c.step.result c.args.pool.now c.step.new.pool
    c.args.locks.now c.step.new.locks c.in-Find.find c.step.new.self c.step.ensures)

pub invariant_of-insert : goal.invariant_of-insert
invariant_of-insert g c =
    let inv = rw c.in-First.is at c.insert.invariant in
    (c.note.ensures (g.K.PseudoKey.of_key c.args.keys.now) c.args.seat c.in-First.first c.args.pool.now
    c.step-did.new.pool c.args.locks.now c.step-did.new.locks inv c.step-did.ensures).0

pub returns-in-First : goal.returns-in-First
returns-in-First g c =
    let inv = rw c.in-First.is at c.insert.invariant in
    rw (c.in-Insert.is, ← c.insert.view_is, c.in-First.is) (insert_makes _ c.args.seat c.args.value.now
    c.step-did.result c.args.pool.now c.step-did.new.pool c.args.locks.now c.step-did.new.locks _ _
    (c.note.ensures _ c.args.seat c.in-First.first c.args.pool.now c.step-did.new.pool c.args.locks.now
    c.step-did.new.locks inv c.step-did.ensures).1)

pub returns-in-Second : goal.returns-in-Second
returns-in-Second g c =
    let i = c.insert.inside in
    let inv = rw c.in-Second.is at c.insert.invariant in
    rw (c.in-Insert.is, ← c.insert.view_is, c.in-Second.is) (insert_makes _ c.args.seat c.args.value.now
    c.step-in-Second.result c.args.pool.now c.step-in-Second.new.pool c.args.locks.now c.step-in-Second.new.locks _ _
    (second_goes_on _ c.args.seat i.key i.pseudokey _ c.args.pool.now c.step-in-Second.new.pool c.args.locks.now
    c.step-in-Second.new.locks c.step-in-Second.result c.in-Second.second c.step-in-Second.new.self inv
    c.step-in-Second.ensures))

pub step-requires-in-Replace-clause-kind : goal.step-requires-in-Replace-clause-kind
step-requires-in-Replace-clause-kind g c = rw c.in-Replace.is at c.requires.lent

pub returns-in-Replace : goal.returns-in-Replace
returns-in-Replace g c =
    rw (c.in-Replace.is) (replace_makes _ c.args.seat c.args.value.now c.step-in-Replace.result c.args.pool.now
    c.step-in-Replace.new.pool c.args.locks.now c.step-in-Replace.new.locks c.in-Replace.replace
    c.step-in-Replace.new.self c.step-in-Replace.ensures)

pub returns-in-None : goal.returns-in-None
returns-in-None g c =
    let r = c.delete.inside.removal in
    let m = c.delete.inside.merge in
    let none = sym c.ended.ensures ∙ c.in-None.is in
    rw (c.in-Delete.is, ← c.delete.view_is) (removal_makes r c.step-in-None.new.self m none
    (still_begun r.stage m c.delete.invariant.waits none) c.args.seat c.args.value.now c.step-in-None.result
    c.args.pool.now c.step-in-None.new.pool c.args.locks.now c.step-in-None.new.locks c.step-in-None.ensures _)

pub returns-in-Some-true : goal.returns-in-Some-true
returns-in-Some-true g c =
    let r = c.delete.inside.removal in
    let m = c.delete.inside.merge in
    let is = sym c.ended.ensures ∙ c.in-Some-true.is ∙ ap (λ (b : Bool). Some b) c.in-Some-true.field-0-test in
    rw (c.in-Delete.is, ← c.delete.view_is) (merge_makes _ c.args.seat c.args.value.now r.search m r.stage
    c.step-in-Some-true.new.self c.step-in-Some-true.result c.args.pool.now c.step-in-Some-true.new.pool
    c.args.locks.now c.step-in-Some-true.new.locks is c.delete.invariant.key c.delete.invariant.pseudokey
    c.step-in-Some-true.ensures)

pub returns-in-Some-false : goal.returns-in-Some-false
returns-in-Some-false g c =
    let d : DeleteView = c.in-Delete.delete in
    let is = ap (λ (x : DeleteView). ended_in x.removal.stage) (sym c.delete.view_is) ∙ sym c.ended.ensures
    ∙ c.in-Some-false.is ∙ ap (λ (b : Bool). Some b) c.in-Some-false.field-0-test in
    rw (c.in-Delete.is) (over_makes _ c.args.seat c.args.value.now d.removal.search d.merge d.removal.stage
    c.args.pool.now c.args.locks.now is c.requires.ready)
