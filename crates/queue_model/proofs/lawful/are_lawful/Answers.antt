-- Queues that can be alive together, with keys apart, make up a lawful system.
use Rattle.std.proofs.Common.{refl, arith}
use Rattle.queue_model.proofs.PartsLemmas.{lawful_parts, lawful_whole}
use Rattle.queue_model.proofs.lawful.are_lawful.Goals as goal

pub returns-then-not-are_lawful_queues : goal.returns-then-not-are_lawful_queues
returns-then-not-are_lawful_queues c = (
  λ t. absurd cc,
  λ h. c.if-not-are_lawful_queues.ensures.1 (lawful_parts _ _ h),
)

pub returns : goal.returns
returns c =
    let few = c.if-queues.false in
    let begun = c.if-next_id-lt1.false in
    let ends = c.if-next_id-gt-END_OF_IDS.false in (
      λ t. lawful_whole _ _ (omega (arith, few)) (omega (arith, begun)) (omega (arith, ends))
          (c.if-not-are_lawful_queues.ensures.0 refl) (c.are_keys_apart.ensures.0 t),
      λ h. c.are_keys_apart.ensures.1 h.keys_apart,
    )
