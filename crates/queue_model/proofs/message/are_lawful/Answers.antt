-- Serials ascend message by message.
use Rattle.std.proofs.Common.{refl}
use Rattle.queue_model.proofs.PartsLemmas.{ascend_start, ascend_read, ascend_holds, ascend_whole}
use Rattle.queue_model.proofs.message.are_lawful.Goals as goal

pub loop-message-init : goal.loop-message-init
loop-message-init c = ascend_start _ _ _ (λ m h. h.serial_begun)

pub loop-message-preserved : goal.loop-message-preserved
loop-message-preserved c =
    ascend_read _ _ _ _ _ _ c.loop-message-test.true c.message-item.is c.loop-message.invariant
    (c.if-not-follows.ensures.0 refl)

pub returns-then-not-follows : goal.returns-then-not-follows
returns-then-not-follows c = (
  λ t. absurd cc,
  λ h. c.if-not-follows.ensures.1
      (ascend_holds _ _ _ _ _ _ c.loop-message-test.true c.message-item.is c.loop-message.invariant h.each h.ascend),
)

pub returns : goal.returns
returns c =
    let whole = ascend_whole _ _ _ _ _ c.loop-message-test.false c.loop-message.invariant in
    (λ t. record { each = whole.0; ascend = whole.1 }, λ h. refl)
