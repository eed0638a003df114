-- The half in which the queue can stand.
use Rattle.std.proofs.Common.{sym, arith}
use Rattle.queue_model.specs.declared.queue.Queue.{Queue}
use Rattle.file_check.proofs.NeedsLemmas.{halved_all, halved_down, halved_found, halved_up, ids_ascend}
use Rattle.file_check.proofs.needs.place_of.Goals as goal

pub search-preserved-then-other-id-2 : goal.search-preserved-then-other-id-2
search-preserved-then-other-id-2 c =
    halved_up (λ (q : Queue). q.id) c.args.system.now.queues c.args.id c.search.low c.search.high
    (ids_ascend _ c.keeps_limits.ensures) c.search.invariant _ c.queue.result.now
    (let short = c.search-test.true in omega (arith, short)) (sym c.queue.ensures) c.if-other-id-2.true

pub search-preserved : goal.search-preserved
search-preserved c =
    halved_down (λ (q : Queue). q.id) c.args.system.now.queues c.args.id c.search.low c.search.high
    (ids_ascend _ c.keeps_limits.ensures) c.search.invariant _ c.queue.result.now
    (let short = c.search-test.true in omega (arith, short)) (sym c.queue.ensures)
    (let other = c.if-other-id.false in let above = c.if-other-id-2.false in omega (arith, other, above))

pub returns-then-other-id-clause-some : goal.returns-then-other-id-clause-some
returns-then-other-id-clause-some c =
    halved_found (λ (q : Queue). q.id) c.args.system.now.queues c.args.id c.search.low c.search.high
    (ids_ascend _ c.keeps_limits.ensures) c.search.invariant _ c.queue.result.now
    (let short = c.search-test.true in omega (arith, short)) (sym c.queue.ensures) c.if-other-id.true

pub returns-clause-none : goal.returns-clause-none
returns-clause-none c =
    halved_all (λ (q : Queue). q.id) c.args.system.now.queues c.args.id c.search.low c.search.high
    (ids_ascend _ c.keeps_limits.ensures) c.search.invariant (let met = c.search-test.false in omega (arith, met))
