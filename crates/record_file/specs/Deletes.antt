-- What a delete holds, knows and asks for at each place: a removal, and then a merge where one is due.
-- docs/STEPS.md, "Insert, Replace, Delete".
use Rattle.std.specs.Prelude.{ℕ, ◌≡◌, ◌↔◌, ◌+◌, ◌⊎◌, true, false, List, [], Some, None, ⊤}
use Rattle.split_merge.specs.Places.{MergeView, merge_locks, is_done}
use Rattle.split_merge.specs.Facts.{merge_facts, merge_turn, steps_left as merge_left}
use Rattle.split_merge.specs.declared.merge_place.MergePlace.{MergePlace}
use Rattle.split_merge.specs.declared.merge_place.MergePlace.TheVariants.{Approaching}
use Rattle.split_merge.specs.stale_search.declared.place.ApproachPlace.TheVariants.{GrantDirectory}
use Rattle.record_file.specs.Words.{Remove, Lock, Store, Progress, Ended, Stays, Known, Turn}
use Rattle.record_file.specs.declared.bucket_access.BucketStage.{BucketStage}
use Rattle.record_file.specs.declared.bucket_access.BucketStage.TheVariants.{Ended as HasEnded}
use Rattle.record_file.specs.declared.bucket_access.Deed.TheVariants as deeds
use Rattle.record_file.specs.BucketAccesses.{BucketView, SuitsKind, ended_in, found_of, has_searched, bucket_locks, bucket_facts, ask_in, bucket_left}
use Rattle.record_file.specs.Writers.{LeavesSearch}

pub record DeleteView : Type 0 where
  pub removal : BucketView
  pub merge : MergeView

-- the merge makes its first step next
pub record IsBegun (m : MergeView) : Type 0 where
  pub place : m.place ≡ Approaching
  pub approach : m.approach.place ≡ GrantDirectory

-- what is always so of a delete
pub record IsDelete (r : BucketView) (m : MergeView) : Type 0 where
  pub key : m.key ≡ r.search.key
  pub pseudokey : m.approach.pseudokey ≡ r.search.pseudokey
  -- its search locks pages to write them
  pub kind : SuitsKind deeds.Remove r.search.kind
  -- the merge waits for the removal
  pub waits : (ended_in r.stage ≡ Some true) ⊎ IsBegun m

-- its removal, which has not ended, and for which the merge waits
pub record IsRemoval (b : BucketView) (d : DeleteView) : Type 0 where
  pub is : d.removal ≡ b
  pub going : ended_in b.stage ≡ None
  -- its search locks pages to write them
  pub kind : SuitsKind deeds.Remove b.search.kind
  pub waits : IsBegun d.merge

-- what is so of the removal, of a delete that has ended with it, and of the merge
abbrev pub part : {A : Type 0} → BucketStage → (removing ended merging : A) → A
part (HasEnded true) removing ended merging = merging
part (HasEnded false) removing ended merging = ended
part stage removing ended merging = removing

-- it has ended where no merge is due, or the merge is done
abbrev pub IsOver : BucketStage → MergePlace → Type 0
IsOver (HasEnded true) place = is_done place ≡ true
IsOver (HasEnded false) place = ⊤
IsOver stage place = ⊥

-- its locks, behind those that the seat had before; three at most
abbrev pub delete_locks : DeleteView → List Lock → List Lock
delete_locks d before = part d.removal.stage (bucket_locks d.removal before) before (merge_locks d.merge before)

abbrev pub delete_facts : DeleteView → List Known
delete_facts d = part d.removal.stage (bucket_facts deeds.Remove d.removal) [] (merge_facts d.merge)

-- the record of its key is to be removed, and of that key alone
abbrev pub delete_turn : DeleteView → Turn
delete_turn d = record {
  ask = part d.removal.stage (ask_in d.removal.stage d.removal.search) None (merge_turn d.merge).ask;
  write = Some (Remove d.removal.search.key);
}

-- what it is about stays, it has ended where it was over, where it did not move it is what it was, and after its
-- search it has written, but where nothing stands there
pub record KeepsDelete {F : Type 0} (did : Progress F) (old new : DeleteView) : Type 0 where
  pub key : new.removal.search.key ≡ old.removal.search.key
  pub pseudokey : new.removal.search.pseudokey ≡ old.removal.search.pseudokey
  pub stays : Stays did old new
  pub ended : (did ≡ Ended) ↔ IsOver old.removal.stage old.merge.place
  pub leaves : LeavesSearch did (found_of old.removal) (has_searched old.removal.stage)
      (has_searched new.removal.stage)

-- the steps that are left, if no other seat steps
abbrev pub delete_left : DeleteView → Store → ℕ
delete_left d s =
    part d.removal.stage (bucket_left deeds.Remove d.removal s + merge_left d.merge s) 0 (merge_left d.merge s)
