-- A delete in its removal, which passes on to the merge.
use Rattle.std.proofs.Common.{◌≡◌, refl, sym, ap, ◌∙◌, ℕ, ◌+◌, ◌≤◌, true, false, List, [], Some, None, is_some, ◌⊎◌, inl, inr, arith}
use Rattle.std.proofs.lemmas.Bool.{true≢false}
use Rattle.split_merge.specs.Places.{MergeView, locks_at as merge_locks_at, merge_locks}
use Rattle.split_merge.specs.Facts.{facts_at as merge_facts_at, left_at as merge_left_at, merge_facts, steps_left as merge_left}
use Rattle.split_merge.specs.declared.merge_place.MergePlace.{MergePlace}
use Rattle.split_merge.specs.stale_search.declared.place.ApproachPlace.{ApproachPlace}
use Rattle.split_merge.specs.stale_search.Approaches.{approach_facts_at, approach_locks_at}
use Rattle.split_merge.specs.buffer_pool.Pool.{PoolState}
use Rattle.split_merge.specs.file_pages.declared.fault.FileFault.{FileFault}
use Rattle.record_file.specs.Words.{Lock, Store, Progress, Moved, Blocked, Fault, Ended, SearchView, Nears}
use Rattle.record_file.specs.Deletes.{IsBegun, IsOver, part}
use Rattle.record_file.specs.BucketAccesses.{ended_in, has_ended, facts_in, left_in, locks_in}
use Rattle.record_file.specs.declared.bucket_access.BucketStage.{BucketStage}
use Rattle.record_file.specs.declared.bucket_access.Deed.TheVariants as deeds
use Rattle.record_file.specs.declared.bucket_access.BucketStage.TheVariants.{Searching, Written, Ended as HasEnded}

module _ {A : Type 0} (removing ended merging : A) where
  pub in_removal : (stage : BucketStage) → ended_in stage ≡ None → part stage removing ended merging ≡ removing
  in_removal Searching none = refl
  in_removal (Written n due) none = refl
  in_removal (HasEnded due) none = absurd cc

pub still_begun : (stage : BucketStage) (m : MergeView) → (ended_in stage ≡ Some true) ⊎ IsBegun m →
    ended_in stage ≡ None → IsBegun m
still_begun stage m (inl is) none = absurd (let f : None ≡ Some true = sym none ∙ is in cc)
still_begun stage m (inr begun) none = begun

-- where a delete has ended
pub not_over : (stage : BucketStage) (place : MergePlace) → ended_in stage ≡ None → IsOver stage place → ⊥
not_over Searching place none over = over
not_over (Written n due) place none over = over
not_over (HasEnded due) place none over = absurd cc

pub not_ended : (stage : BucketStage) → ended_in stage ≡ None → has_ended stage ≡ true → ⊥
not_ended stage none over = true≢false (sym over ∙ ap is_some none)

-- a merge that has not begun holds and knows nothing
module _ (m : MergeView) (begun : IsBegun m) where
  pub begun_locks : (before : List Lock) → merge_locks m before ≡ before
  begun_locks before =
      ap (λ (p : MergePlace). merge_locks_at p m.approach before) begun.place
      ∙ ap (λ (p : ApproachPlace). approach_locks_at p before) begun.approach

  pub begun_facts : merge_facts m ≡ []
  begun_facts =
      ap (λ (p : MergePlace). merge_facts_at p m.approach) begun.place
      ∙ ap (λ (p : ApproachPlace). approach_facts_at p m.approach.pseudokey) begun.approach

  pub begun_left : (s t : Store) → merge_left m s ≡ merge_left m t
  begun_left s t =
      ap (λ (p : MergePlace). merge_left_at p m.approach s) begun.place
      ∙ ap (λ (p : MergePlace). merge_left_at p m.approach t) (sym begun.place)

  -- after a step of the removal
  pub passed_locks : (stage : BucketStage) (search : SearchView) (before : List Lock) →
      locks_in stage search before ≡ part stage (locks_in stage search before) before (merge_locks m before)
  passed_locks Searching search before = refl
  passed_locks (Written n due) search before = refl
  passed_locks (HasEnded true) search before = sym (begun_locks before)
  passed_locks (HasEnded false) search before = refl

  pub passed_facts : (stage : BucketStage) (search : SearchView) →
      facts_in deeds.Remove stage search ≡ part stage (facts_in deeds.Remove stage search) [] (merge_facts m)
  passed_facts Searching search = refl
  passed_facts (Written n due) search = refl
  passed_facts (HasEnded true) search = sym begun_facts
  passed_facts (HasEnded false) search = refl

  pub passed_left : (stage : BucketStage) (search : SearchView) (s : Store) →
      part stage (left_in deeds.Remove stage search s + merge_left m s) 0 (merge_left m s)
      ≤ left_in deeds.Remove stage search s + merge_left m s
  passed_left Searching search s = omega arith
  passed_left (Written n due) search s = omega arith
  passed_left (HasEnded true) search s = omega arith
  passed_left (HasEnded false) search s = omega arith

-- fewer steps are fewer still
pub nears_more : (did : Progress FileFault) (left left' less : ℕ) (pool pool' : PoolState) → less ≤ left' →
    Nears did left left' pool pool' → Nears did left less pool pool'
nears_more (Moved kind) left left' less pool pool' few h = omega (arith, few, h)
nears_more (Blocked other) left left' less pool pool' few h = tt
nears_more (Fault fault) left left' less pool pool' few h = h
nears_more Ended left left' less pool pool' few h = tt
