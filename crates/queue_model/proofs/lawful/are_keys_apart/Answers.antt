-- Queue by queue, none has the key of one before it.
use Rattle.std.proofs.Common.{refl, below_more, arith}
use Rattle.queue_model.proofs.PartsLemmas.{apart_from_first, first_from_apart}
use Rattle.queue_model.specs.Places.{IsFirstOfItsKey}
use Rattle.queue_model.proofs.lawful.are_keys_apart.Goals as goal

pub loop-place-preserved : goal.loop-place-preserved
loop-place-preserved c =
    below_more (λ i. IsFirstOfItsKey c.args.queues.now i) c.loop-place.place
    c.loop-place.invariant (c.if-not-is_first_of_its_key.ensures.0 refl)

pub returns-then-not-is_first_of_its_key : goal.returns-then-not-is_first_of_its_key
returns-then-not-is_first_of_its_key c = (
  λ t. absurd cc,
  λ h. c.if-not-is_first_of_its_key.ensures.1 (first_from_apart _ _ c.loop-place-test.true h),
)

pub returns : goal.returns
returns c = (
  λ t. apart_from_first _ (λ i w. c.loop-place.invariant i (let ended = c.loop-place-test.false in omega arith)),
  λ h. refl,
)
