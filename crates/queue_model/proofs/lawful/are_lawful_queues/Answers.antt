-- Ids ascend queue by queue.
use Rattle.std.proofs.Common.{refl}
use Rattle.queue_model.proofs.PartsLemmas.{ascend_start, ascend_read, ascend_holds, ascend_whole}
use Rattle.queue_model.proofs.lawful.are_lawful_queues.Goals as goal

pub loop-queue-init : goal.loop-queue-init
loop-queue-init c = ascend_start _ _ _ (λ q h. h.begun)

pub loop-queue-preserved : goal.loop-queue-preserved
loop-queue-preserved c =
    ascend_read _ _ _ _ _ _ c.loop-queue-test.true c.queue-item.is c.loop-queue.invariant
    (c.if-not-follows.ensures.0 refl)

pub returns-then-not-follows : goal.returns-then-not-follows
returns-then-not-follows c = (
  λ t. absurd cc,
  λ h. c.if-not-follows.ensures.1
      (ascend_holds _ _ _ _ _ _ c.loop-queue-test.true c.queue-item.is c.loop-queue.invariant h.each h.ascend),
)

pub returns : goal.returns
returns c =
    let whole = ascend_whole _ _ _ _ _ c.loop-queue-test.false c.loop-queue.invariant in
    (λ t. record { each = whole.0; ascend = whole.1 }, λ h. refl)
