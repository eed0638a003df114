-- What is kept of the page tells whether it is a bucket.
use Rattle.std.proofs.Common.{refl}
use Rattle.file_walk.proofs.OutlineLemmas.{bucket_kept, no_bucket_kept}
use Rattle.file_walk.proofs.outline.Outline.bucket.Goals as goal

pub returns-in-Some-Bucket-clause-some : goal.returns-in-Some-Bucket-clause-some
returns-in-Some-Bucket-clause-some c = bucket_kept _ _ _
    (rw c.in-Some-Bucket.field-0-is at c.in-Some-Bucket.ensures.some)

pub returns-in-Some-Free-clause-none : goal.returns-in-Some-Free-clause-none
returns-in-Some-Free-clause-none c = no_bucket_kept _ _ _
    (rw c.in-Some-Free.field-0-is at c.in-Some-Free.ensures.some) refl

pub returns-in-Some-Tombstone-clause-none : goal.returns-in-Some-Tombstone-clause-none
returns-in-Some-Tombstone-clause-none c = no_bucket_kept _ _ _
    (rw c.in-Some-Tombstone.field-0-is at c.in-Some-Tombstone.ensures.some) refl

pub returns-in-Some-Other-clause-none : goal.returns-in-Some-Other-clause-none
returns-in-Some-Other-clause-none c = no_bucket_kept _ _ _
    (rw c.in-Some-Other.field-0-is at c.in-Some-Other.ensures.some) refl
