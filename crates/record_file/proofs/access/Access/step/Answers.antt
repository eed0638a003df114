-- A step of each machine is one of its operation, and with the rest that is done one of the access.
use Rattle.std.proofs.Common.{sym, ap, ◌∙◌, refl, Bool, Some}
use Rattle.std.specs.Option.{is_some}
use Rattle.record_file.proofs.InsertLemmas.{second_goes_on}
use Rattle.record_file.proofs.KindLemmas.{find_makes, insert_makes, replace_makes}
use Rattle.record_file.proofs.MergeLemmas.{merge_makes, over_makes}
use Rattle.record_file.proofs.PartLemmas.{still_begun}
use Rattle.record_file.proofs.RemovalLemmas.{removal_makes}
use Rattle.record_file.specs.AccessWords.{RecordOperation, found_of, operation_found}
use Rattle.record_file.specs.BucketAccesses.{ended_in}
use Rattle.record_file.specs.Deletes.{DeleteView}
use Rattle.record_file.proofs.access.Access.step.Goals as goal

pub returns-in-Find : goal.returns-in-Find
returns-in-Find g c =
    let had = c.is_some-answered.ensures ∙ ap is_some c.found.ensures
    ∙ ap (λ (o : RecordOperation). is_some (operation_found o)) c.in-Find.is in
    rw (← c.self.view_is, c.in-Find.is) (c.settle.ensures _ c.args.seat _ c.args.pool.now c.args.locks.now
    c.step-did.new.locks had refl
    (find_makes _ c.args.seat _ c.step-did.result c.args.pool.now c.step-did.new.pool c.args.locks.now
    c.step-did.new.locks c.in-Find.find c.step-did.new.self (rw (c.as_slice.ensures.value) at c.step-did.ensures)))

pub invariant_of-insert : goal.invariant_of-insert
invariant_of-insert g c =
    let inv = rw c.in-First.is at c.insert.invariant in
    let made = rw (c.as_slice-value.ensures.value) at c.step-did-in-First.ensures in
    let noted = rw (c.as_slice-value.ensures.value) at c.note.ensures in
    (noted (g.K.PseudoKey.of_key c.args.keys.now) c.args.seat c.in-First.first c.args.pool.now
    c.step-did-in-First.new.pool c.args.locks.now c.step-did-in-First.new.locks inv made).0

pub invariant_of-self-in-First : goal.invariant_of-self-in-First
invariant_of-self-in-First g c =
    let inv = rw c.in-First.is at c.insert.invariant in
    let made = rw (c.as_slice-value.ensures.value) at c.step-did-in-First.ensures in
    let noted = rw (c.as_slice-value.ensures.value) at c.note.ensures in
    let done = (noted (g.K.PseudoKey.of_key c.args.keys.now) c.args.seat c.in-First.first c.args.pool.now
    c.step-did-in-First.new.pool c.args.locks.now c.step-did-in-First.new.locks inv made).1 in
    record {
      key_is = rw (c.in-Insert.is, ← c.insert.view_is) at c.self.invariant.key_is;
      within = c.self.invariant.within;
      lent = done.aim.lent tt;
    }

pub returns-in-First : goal.returns-in-First
returns-in-First g c =
    let had = c.is_some-answered.ensures ∙ ap is_some c.found.ensures
    ∙ ap (λ (o : RecordOperation). is_some (operation_found o)) c.in-Insert.is in
    let inv = rw c.in-First.is at c.insert.invariant in
    let made = rw (c.as_slice-value.ensures.value) at c.step-did-in-First.ensures in
    let noted = rw (c.as_slice-value.ensures.value) at c.note.ensures in
    rw (← c.self.view_is, c.in-Insert.is, ← c.insert.view_is, c.in-First.is) (c.settle-in-First.ensures _ c.args.seat _
    c.args.pool.now c.args.locks.now c.step-did-in-First.new.locks had refl
    (insert_makes _ c.args.seat _ c.step-did-in-First.result c.args.pool.now c.step-did-in-First.new.pool
    c.args.locks.now c.step-did-in-First.new.locks _ _
    (noted _ c.args.seat c.in-First.first c.args.pool.now c.step-did-in-First.new.pool c.args.locks.now
    c.step-did-in-First.new.locks inv made).1))

pub returns-in-Second : goal.returns-in-Second
returns-in-Second g c =
    let i = c.insert.inside in
    let had = c.is_some-answered.ensures ∙ ap is_some c.found.ensures
    ∙ ap (λ (o : RecordOperation). is_some (operation_found o)) c.in-Insert.is in
    let inv = rw c.in-Second.is at c.insert.invariant in
    let made = rw (c.as_slice-in-Second.ensures.value) at c.step-did-in-Second.ensures in
    rw (← c.self.view_is, c.in-Insert.is, ← c.insert.view_is, c.in-Second.is) (c.settle-in-Second.ensures _ c.args.seat
    _ c.args.pool.now c.args.locks.now c.step-did-in-Second.new.locks had refl
    (insert_makes _ c.args.seat _ c.step-did-in-Second.result c.args.pool.now c.step-did-in-Second.new.pool
    c.args.locks.now c.step-did-in-Second.new.locks _ _
    (second_goes_on _ c.args.seat i.key i.pseudokey _ c.args.pool.now c.step-did-in-Second.new.pool c.args.locks.now
    c.step-did-in-Second.new.locks c.step-did-in-Second.result c.in-Second.second c.step-did-in-Second.new.self inv
    made)))

pub returns-in-Replace : goal.returns-in-Replace
returns-in-Replace g c =
    let had = c.is_some-answered.ensures ∙ ap is_some c.found.ensures
    ∙ ap (λ (o : RecordOperation). is_some (operation_found o)) c.in-Replace.is in
    rw (← c.self.view_is, c.in-Replace.is) (c.settle-in-Replace.ensures _ c.args.seat _ c.args.pool.now
    c.args.locks.now c.step-did-in-Replace.new.locks had refl
    (replace_makes _ c.args.seat _ c.step-did-in-Replace.result c.args.pool.now c.step-did-in-Replace.new.pool
    c.args.locks.now c.step-did-in-Replace.new.locks c.in-Replace.replace c.step-did-in-Replace.new.self
    (rw (c.as_slice-in-Replace.ensures.value) at c.step-did-in-Replace.ensures)))

pub returns-in-None : goal.returns-in-None
returns-in-None g c =
    let r = c.delete.inside.removal in
    let m = c.delete.inside.merge in
    let had = c.is_some-answered.ensures ∙ ap is_some c.found.ensures
    ∙ ap (λ (o : RecordOperation). is_some (operation_found o)) c.in-Delete.is
    ∙ ap (λ (d : DeleteView). is_some (found_of d.removal)) (sym c.delete.view_is) in
    let none = sym c.ended.ensures ∙ c.in-None.is in
    rw (← c.self.view_is, c.in-Delete.is, ← c.delete.view_is) (c.settle-in-None.ensures _ c.args.seat _ c.args.pool.now
    c.args.locks.now c.step-did-in-None.new.locks had refl
    (removal_makes r c.step-did-in-None.new.self m none (still_begun r.stage m c.delete.invariant.waits none)
    c.args.seat _ c.step-did-in-None.result c.args.pool.now c.step-did-in-None.new.pool c.args.locks.now
    c.step-did-in-None.new.locks (rw (c.as_slice-bytes.ensures.value) at c.step-did-in-None.ensures) _))

pub returns-in-Some-true : goal.returns-in-Some-true
returns-in-Some-true g c =
    let r = c.delete.inside.removal in
    let m = c.delete.inside.merge in
    let had = c.is_some-answered.ensures ∙ ap is_some c.found.ensures
    ∙ ap (λ (o : RecordOperation). is_some (operation_found o)) c.in-Delete.is
    ∙ ap (λ (d : DeleteView). is_some (found_of d.removal)) (sym c.delete.view_is) in
    let is = sym c.ended.ensures ∙ c.in-Some-true.is ∙ ap (λ (b : Bool). Some b) c.in-Some-true.field-0-test in
    rw (← c.self.view_is, c.in-Delete.is, ← c.delete.view_is) (c.settle-in-Some-true.ensures _ c.args.seat _
    c.args.pool.now c.args.locks.now c.step-did-in-Some-true.new.locks had refl
    (merge_makes _ c.args.seat _ r.search m r.stage c.step-did-in-Some-true.new.self c.step-did-in-Some-true.result
    c.args.pool.now c.step-did-in-Some-true.new.pool c.args.locks.now c.step-did-in-Some-true.new.locks is
    c.delete.invariant.key c.delete.invariant.pseudokey c.step-did-in-Some-true.ensures))

pub returns-in-Some-false : goal.returns-in-Some-false
returns-in-Some-false g c =
    let d : DeleteView = c.in-Delete.delete in
    let had = c.is_some-answered.ensures ∙ ap is_some c.found.ensures
    ∙ ap (λ (o : RecordOperation). is_some (operation_found o)) c.in-Delete.is in
    let is = ap (λ (x : DeleteView). ended_in x.removal.stage) (sym c.delete.view_is) ∙ sym c.ended.ensures
    ∙ c.in-Some-false.is ∙ ap (λ (b : Bool). Some b) c.in-Some-false.field-0-test in
    rw (← c.self.view_is, c.in-Delete.is) (c.settle-in-Some-false.ensures _ c.args.seat _ c.args.pool.now
    c.args.locks.now c.args.locks.now had refl
    (over_makes _ c.args.seat _ d.removal.search d.merge d.removal.stage c.args.pool.now c.args.locks.now is
    c.requires.ready))
