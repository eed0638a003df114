use Rattle.std.proofs.Common.{[], ◌∷◌}
use Rattle.digests.proofs.compression.initial.Goals as goal

pub returns : goal.returns
returns c = λ lane within. λ i.
    c.splat.ensures lane within i ∷ c.splat-2.ensures lane within i ∷ c.splat-3.ensures lane within i
    ∷ c.splat-4.ensures lane within i ∷ c.splat-5.ensures lane within i ∷ c.splat-6.ensures lane within i
    ∷ c.splat-7.ensures lane within i ∷ c.splat-8.ensures lane within i ∷ []
