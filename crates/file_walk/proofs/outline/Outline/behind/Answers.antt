-- What is kept of the page tells whether it is free.
use Rattle.file_walk.proofs.OutlineLemmas.{free_kept, not_free_kept}
use Rattle.file_walk.proofs.outline.Outline.behind.Goals as goal

pub returns-in-Some-Free-clause-some : goal.returns-in-Some-Free-clause-some
returns-in-Some-Free-clause-some c = free_kept _ _ _ (rw c.in-Some-Free.field-0-is at c.in-Some-Free.ensures.some)

pub returns-in-Some-Bucket-clause-none : goal.returns-in-Some-Bucket-clause-none
returns-in-Some-Bucket-clause-none c = not_free_kept _ _ _
    (rw c.in-Some-Bucket.field-0-is at c.in-Some-Bucket.ensures.some) (λ next same. absurd cc)

pub returns-in-Some-Tombstone-clause-none : goal.returns-in-Some-Tombstone-clause-none
returns-in-Some-Tombstone-clause-none c = not_free_kept _ _ _
    (rw c.in-Some-Tombstone.field-0-is at c.in-Some-Tombstone.ensures.some) (λ next same. absurd cc)

pub returns-in-Some-Other-clause-none : goal.returns-in-Some-Other-clause-none
returns-in-Some-Other-clause-none c = not_free_kept _ _ _
    (rw c.in-Some-Other.field-0-is at c.in-Some-Other.ensures.some) (λ next same. absurd cc)
