-- What is read is the queue, or there is none.
use Rattle.std.proofs.Common.{ℕ, List, Option, IsTrue, refl, sym, subst, ◌∙◌, inr}
use Rattle.std.proofs.lemmas.Result.{err_from_is_err_and}
use Rattle.record_walk.specs.Systems.{HasQueue, IsQueueOf, IsWalkOf}
use Rattle.record_walk.specs.Words.{RecordKey}
use Rattle.record_walk.proofs.QueueLemmas.{none_there, none_read, queue_read, walk_failed}
use Rattle.record_walk.proofs.queue.read_queue.Goals as goal

pub returns-in_default-clause-err : goal.returns-in_default-clause-err
returns-in_default-clause-err g c = λ is.
    inr (
      refl,
      none_there (g.F.Records.held c.args.file.now) c.args.id c.in_ok-entry.field-0
          (c.in_ok-entry.ensures.ok is) c.in_default.is,
    )

pub returns-in_err-messages-clause-err : goal.returns-in_err-messages-clause-err
returns-in_err-messages-clause-err g c = λ is.
    let still = c.in_ok-entry.ensures.still in
    let p = err_from_is_err_and c.from_residual-in_err-messages.result
    c.from_residual-in_err-messages.ensures.1 in
    rw (p.1, p.2) (walk_failed _ (g.F.Records.held c.args.file.now) c.args.id c.in-Some.entry
    c.in_err-messages.field-0.0 (λ e h a. sym c.in-Some.is ∙ c.in_ok-entry.ensures.ok is e h a) still.same
    (c.in_err-messages.ensures.err (subst IsTrue (sym still.honesty) is)))

pub returns-then-not-branch-clause-err : goal.returns-then-not-branch-clause-err
returns-then-not-branch-clause-err g c = λ is.
    let one = c.in_ok-entry.ensures.still in
    let two = c.in_ok-messages.ensures.still in
    let is1 = subst IsTrue (sym one.honesty) is in
    let told = c.in_ok-has_queue.ensures.ok (subst IsTrue (sym two.honesty) is1) in
    let walked = subst (λ (h : RecordKey → Option (List ℕ)). IsWalkOf h c.args.id c.in-Some.entry.first
    c.in_ok-messages.field-0.messages) one.same (c.in_ok-messages.ensures.ok is1) in
    inr (
      refl,
      none_read (g.F.Records.held c.args.file.now) c.args.id c.in-Some.entry
          (λ e h a. sym c.in-Some.is ∙ c.in_ok-entry.ensures.ok is e h a) c.in_ok-messages.field-0.messages walked
          (λ h.
          let t = told.1 (subst (λ (x : RecordKey → Option (List ℕ)). HasQueue x c.queue_in-queue.result)
          (sym (two.same ∙ one.same))
          (subst (HasQueue (g.F.Records.held c.args.file.now)) (sym c.queue_in-queue.ensures) h)) in
          let f = c.if-not-branch.true in
          absurd cc),
    )

pub returns-clause-ok : goal.returns-clause-ok
returns-clause-ok g c = λ is.
    let one = c.in_ok-entry.ensures.still in
    let two = c.in_ok-messages.ensures.still in
    let is1 = subst IsTrue (sym one.honesty) is in
    let told = c.in_ok-has_queue.ensures.ok (subst IsTrue (sym two.honesty) is1) in
    let walked = subst (λ (h : RecordKey → Option (List ℕ)). IsWalkOf h c.args.id c.in-Some.entry.first
    c.in_ok-messages.field-0.messages) one.same (c.in_ok-messages.ensures.ok is1) in
    subst (IsQueueOf (g.F.Records.held c.args.file.now) c.args.id) (sym c.queue_in-queue.ensures)
    (queue_read (g.F.Records.held c.args.file.now) c.args.id c.in-Some.entry
    (λ e h a. sym c.in-Some.is ∙ c.in_ok-entry.ensures.ok is e h a) c.in_ok-messages.field-0.messages walked
    (subst (HasQueue (g.F.Records.held c.args.file.now)) c.queue_in-queue.ensures
    (subst (λ (x : RecordKey → Option (List ℕ)). HasQueue x c.queue_in-queue.result) (two.same ∙ one.same)
    (told.0 c.if-not-branch.false))))
