-- What is read is the system, or there is none.
use Rattle.std.proofs.Common.{ℕ, List, Option, IsTrue, sym, subst, ◌∙◌}
use Rattle.std.proofs.lemmas.Result.{err_from_is_err_and}
use Rattle.record_walk.specs.Systems.{AreQueuesOf, HasSystem}
use Rattle.record_walk.specs.Words.{IsLawful, RecordKey}
use Rattle.record_walk.proofs.QueueLemmas.{holds_before, holds_now}
use Rattle.record_walk.proofs.SystemLemmas.{counted_so, counter_stands, is_system, system_is, no_counter, no_system, queues_failed}
use Rattle.record_walk.proofs.system.read_system.Goals as goal

pub returns-in_default-clause-err : goal.returns-in_default-clause-err
returns-in_default-clause-err g c = λ is.
    no_counter (g.F.Records.held c.args.file.now) c.in_ok-counter.field-0 (c.in_ok-counter.ensures.ok is)
    c.in_default.is

pub returns-in_err-queues-clause-err : goal.returns-in_err-queues-clause-err
returns-in_err-queues-clause-err g c = λ is.
    let still = c.in_ok-counter.ensures.still in
    let p = err_from_is_err_and c.from_residual-in_err-queues.result
    c.from_residual-in_err-queues.ensures.1 in
    rw (p.1, p.2) (queues_failed _ (g.F.Records.held c.args.file.now) c.args.ids.now c.in_err-queues.field-0.0
    (c.requires is) still.same (c.in_err-queues.ensures.err (subst IsTrue (sym still.honesty) is)))

pub returns-in_default-of_queues-clause-err : goal.returns-in_default-of_queues-clause-err
returns-in_default-of_queues-clause-err g c = λ is.
    let still = c.in_ok-counter.ensures.still in
    let read = subst (λ (h : RecordKey → Option (List ℕ)). AreQueuesOf h c.args.ids.now c.in_ok-queues.queues.items)
    still.same (c.in_ok-queues.ensures.ok (subst IsTrue (sym still.honesty) is)) in
    no_system (g.F.Records.held c.args.file.now) c.args.ids.now (c.requires is) c.in_ok-queues.queues.items read
    c.in-Some.counter (λ d h. sym c.in-Some.is ∙ c.in_ok-counter.ensures.ok is d h)
    (λ h. c.in_default-of_queues.ensures.none h.lawful)

pub returns-then-not-branch-clause-err : goal.returns-then-not-branch-clause-err
returns-then-not-branch-clause-err g c = λ is.
    let held = g.F.Records.held c.args.file.now in
    let one = c.in_ok-counter.ensures.still in
    let two = c.in_ok-queues.ensures.still in
    let is1 = subst IsTrue (sym one.honesty) is in
    let items = c.in_ok-queues.queues.items in
    let read = subst (λ (h : RecordKey → Option (List ℕ)). AreQueuesOf h c.args.ids.now items) one.same
    (c.in_ok-queues.ensures.ok is1) in
    let told = c.in_ok-holds.ensures.ok (subst IsTrue (sym two.honesty) is1) in
    let made = c.in-Some-of_queues.ensures.some in
    let counted = counted_so c.next_id.result c.queues.result c.in-Some-of_queues.system items
    c.in-Some.counter.next_id made c.next_id.ensures c.queues.ensures in
    no_system held c.args.ids.now (c.requires is) items read
    c.in-Some.counter (λ d h. sym c.in-Some.is ∙ c.in_ok-counter.ensures.ok is d h)
    (λ h.
    let stands = counter_stands held items c.in-Some.counter.next_id h in
    let t = told.1 (holds_now _ held _ _ (two.same ∙ one.same) counted stands) in
    let f = c.if-not-branch.true in
    absurd cc)

pub returns-clause-ok : goal.returns-clause-ok
returns-clause-ok g c = λ is.
    let held = g.F.Records.held c.args.file.now in
    let one = c.in_ok-counter.ensures.still in
    let two = c.in_ok-queues.ensures.still in
    let is1 = subst IsTrue (sym one.honesty) is in
    let items = c.in_ok-queues.queues.items in
    let read = subst (λ (h : RecordKey → Option (List ℕ)). AreQueuesOf h c.args.ids.now items) one.same
    (c.in_ok-queues.ensures.ok is1) in
    let told = c.in_ok-holds.ensures.ok (subst IsTrue (sym two.honesty) is1) in
    let made = c.in-Some-of_queues.ensures.some in
    let counted = counted_so c.next_id.result c.queues.result c.in-Some-of_queues.system items
    c.in-Some.counter.next_id made c.next_id.ensures c.queues.ensures in
    record {
      has = subst (HasSystem held) (sym made)
          (is_system held c.args.ids.now (c.requires is) items read c.in-Some.counter.next_id
          (subst IsLawful made c.keeps_limits.ensures)
          (holds_before _ held _ _ (two.same ∙ one.same) counted (told.0 c.if-not-branch.false)));
      only = λ s h.
          system_is held c.args.ids.now (c.requires is) items read c.in-Some.counter
          (λ d stands. sym c.in-Some.is ∙ c.in_ok-counter.ensures.ok is d stands) s h ∙ sym made;
    }
