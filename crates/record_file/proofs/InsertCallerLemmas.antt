-- The names of records are held as before.
use Rattle.std.proofs.Common.{◌≡◌, refl, ◌∙◌, ℕ, List, ◌==◌, Bool, true, false, if◌then◌else◌}
use Rattle.step_rules.specs.queue_records.declared.layout.TheConstants.{COUNTER, KEY}
use Rattle.step_rules.specs.Words.{LockName, Key, Counter, Queue}
use Rattle.split_merge.specs.stale_search.Callers.{AddsFileLocks, IsAside}
use Rattle.split_merge.proofs.of_stale_search.CallerLemmas.{approach_adds_locks, in_aside, on_aside, search_adds_locks}
use Rattle.record_file.specs.Callers.{KeepsNames}
use Rattle.record_file.specs.BucketAccesses.{locks_in as bucket_locks_in}
use Rattle.record_file.specs.Words.{SearchView}
use Rattle.record_file.specs.declared.bucket_access.BucketStage.{BucketStage}
use Rattle.record_file.specs.declared.bucket_access.BucketStage.TheVariants.{Searching, Written, Ended as BucketEnded}
use Rattle.record_file.specs.Inserts.{InsertView, insert_locks, locks_in}
use Rattle.record_file.specs.declared.insert.InsertStage.{InsertStage}
use Rattle.record_file.specs.declared.insert.InsertStage.TheVariants.{First, Second}
use Rattle.record_file.specs.InsertWords.{RecordKey, Lock, Selective, kind_of, guard_of, in_directory, SecondPlace, Approaching, Look, Hop, Write, Splitting, GiveBackPage, GiveBackDirectory, HasEnded}
use Rattle.record_file.specs.SecondTries.{SecondTryView, second_locks, locks_at, on_one}
use Rattle.split_merge.specs.Splits.{locks_at as split_locks_at}
use Rattle.split_merge.specs.declared.place.SplitPlace.{SplitPlace}
use Rattle.split_merge.specs.declared.place.SplitPlace.TheVariants as to

-- a record is guarded by a name that is neither the directory's nor a page's
pub guard_aside : (key : RecordKey) → IsAside (guard_of key)
guard_aside key = by (key.kind == COUNTER) (key.kind == KEY)
  where
    by : (a b : Bool) → IsAside (if a then Counter else if b then Key key.number else Queue key.queue)
    by true b = tt
    by false true = tt
    by false false = tt

module _ (name : LockName) (aside : IsAside name) where
  pub one_aside : (n : ℕ) (xs : List Lock) → kind_of (on_one n xs) name ≡ kind_of xs name
  one_aside n xs = on_aside name aside n Selective (in_directory Selective xs) ∙ in_aside name aside Selective xs

  split_adds : (place : SplitPlace) (page : ℕ) (xs : List Lock) →
      kind_of (split_locks_at place page xs) name ≡ kind_of xs name
  split_adds to.TakePage page xs = one_aside page xs
  split_adds (to.CopyDirectory new n) page xs = one_aside page xs
  split_adds (to.RaiseDepth new) page xs = one_aside page xs
  split_adds (to.WriteNew new) page xs = one_aside page xs
  split_adds (to.WriteOld new) page xs = one_aside page xs
  split_adds (to.Retarget new entry) page xs = one_aside page xs
  split_adds (to.SetCounts new) page xs = one_aside page xs
  split_adds to.Done page xs = one_aside page xs
  split_adds to.Full page xs = in_aside name aside Selective xs

  adds : (place : SecondPlace) (xs : List Lock) → kind_of (locks_at place xs) name ≡ kind_of xs name
  adds (Approaching a) xs = approach_adds_locks a xs name aside
  adds (Look depth n) xs = one_aside n xs
  adds (Hop depth n) xs = one_aside n xs
  adds (Write n used) xs = one_aside n xs
  adds (Splitting n v) xs = split_adds v.place v.page xs
  adds (GiveBackPage n tried) xs = one_aside n xs
  adds (GiveBackDirectory tried) xs = in_aside name aside Selective xs
  adds (HasEnded tried) xs = refl

pub second_adds_locks : (t : SecondTryView) → AddsFileLocks (second_locks t)
second_adds_locks t before name aside = adds name aside t.place before

-- ---- inserts

module _ (name : LockName) (aside : IsAside name) where
  first_adds : (stage : BucketStage) (search : SearchView) (xs : List Lock) →
      kind_of (bucket_locks_in stage search xs) name ≡ kind_of xs name
  first_adds Searching search xs = search_adds_locks search xs name aside
  first_adds (Written n due) search xs = on_aside name aside n search.kind xs
  first_adds (BucketEnded due) search xs = refl

  stage_adds : (stage : InsertStage) (xs : List Lock) → kind_of (locks_in stage xs) name ≡ kind_of xs name
  stage_adds (First t said) xs = first_adds t.stage t.search xs
  stage_adds (Second t) xs = second_adds_locks t xs name aside

pub insert_adds_locks : (i : InsertView) → AddsFileLocks (insert_locks i)
insert_adds_locks i before name aside = stage_adds name aside i.stage before

pub insert_aside : (i : InsertView) → KeepsNames (insert_locks i)
insert_aside i before key = insert_adds_locks i before (guard_of key) (guard_aside key)
