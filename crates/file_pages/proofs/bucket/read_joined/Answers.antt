-- The bucket of both copies is that of the file's buckets.
use Rattle.std.proofs.Common.{◌≡◌, ◌∙◌, ◌<◌, refl, sym, ap, subst, ℕ, List, length, IsTrue}
use Rattle.bucket_page.specs.Changes.{IsBucketPage}
use Rattle.bucket_page.specs.Reading.{bucket_in}
use Rattle.hash_file.specs.Store.{bucket_at}
use Rattle.file_pages.specs.Files.{image, store_of}
use Rattle.file_pages.proofs.ReadLemmas.{devices_after, handed_on, never_fails}
use Rattle.file_pages.proofs.RecordLemmas.{there_within}
use Rattle.file_pages.proofs.PageLemmas.{copied_bucket, copied_was, joinable_is, joined_is}
use Rattle.file_pages.proofs.bucket.read_joined.Given as given
use Rattle.file_pages.proofs.bucket.read_joined.Goals as goal

pub returns-in_err-first-clause-fault : goal.returns-in_err-first-clause-fault
returns-in_err-first-clause-fault g c = λ honest file may.
    handed_on c.from_residual.result _ _ c.from_residual.ensures.1
    (c.in_err-first.ensures.fault honest file (there_within c.args.pool.now.images c.args.left may.left_there))

pub returns-in_err-second-clause-fault : goal.returns-in_err-second-clause-fault
returns-in_err-second-clause-fault g c = λ honest file may.
    let reads = c.in_ok-first.ensures.reads in
    handed_on c.from_residual-in_err-second.result _ _ c.from_residual-in_err-second.ensures.1
    (devices_after reads.later (c.in_err-second.ensures.fault (reads.honest ∙ honest) (reads.file honest refl file)
    (subst (λ (images : List (List ℕ)). c.args.right < length images) (sym (reads.images honest))
    (there_within c.args.pool.now.images c.args.right may.right_there))))

-- the right page was read where nothing had changed
right_copy : (g : given.Over) (c : goal.After-join g) → IsTrue c.args.pool.now.honest
    → c.in_ok-second.second ≡ image c.args.pool.now.images c.args.right
right_copy g c honest =
    let reads = c.in_ok-first.ensures.reads in
    c.in_ok-second.ensures.ok (reads.honest ∙ honest)
    ∙ ap (λ (images : List (List ℕ)). image images c.args.right) (reads.images honest)

right_within : (g : given.Over) (c : goal.After-join g) → IsTrue c.args.pool.now.honest
    → c.args.right < length c.args.pool.now.images
right_within g c honest =
    subst (λ (images : List (List ℕ)). c.args.right < length images) (c.in_ok-first.ensures.reads.images honest)
    c.in_ok-second.ensures.within

left_was : (g : given.Over) (c : goal.After-join g) → IsTrue c.args.pool.now.honest → IsBucketPage c.in_ok-first.first
    → bucket_at (store_of c.args.pool.now.images) c.args.left ≡ bucket_in c.in_ok-first.first
left_was g c honest bucket =
    copied_was c.args.pool.now.images c.args.left c.in_ok-first.first (c.in_ok-first.ensures.ok honest)
    c.if-left-lt-ROOT_PAGE.false c.in_ok-first.ensures.within bucket

right_was : (g : given.Over) (c : goal.After-join g) → IsTrue c.args.pool.now.honest
    → IsBucketPage c.in_ok-second.second
    → bucket_at (store_of c.args.pool.now.images) c.args.right ≡ bucket_in c.in_ok-second.second
right_was g c honest bucket =
    copied_was c.args.pool.now.images c.args.right c.in_ok-second.second (right_copy g c honest)
    c.if-right-lt-ROOT_PAGE.false (right_within g c honest) bucket

pub returns-clause-ok : goal.returns-clause-ok
returns-clause-ok g c = λ honest.
    joined_is (left_was g c honest) (right_was g c honest) c.join.result c.join.ensures.left c.join.ensures.right
    c.join.ensures.ok

pub returns-clause-fault : goal.returns-clause-fault
returns-clause-fault g c = λ honest file may.
    let left = copied_bucket c.args.pool.now.images c.args.left c.in_ok-first.first (c.in_ok-first.ensures.ok honest)
    c.if-left-lt-ROOT_PAGE.false c.in_ok-first.ensures.within file.file may.left_there in
    let right = copied_bucket c.args.pool.now.images c.args.right c.in_ok-second.second (right_copy g c honest)
    c.if-right-lt-ROOT_PAGE.false (right_within g c honest) file.file may.right_there in
    never_fails c.join.result _ (λ failed. c.join.ensures.err failed left right
    (joinable_is (left_was g c honest) (right_was g c honest) left right may.joinable))
