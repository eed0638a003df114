-- An operation: what it owns, what it holds once it has ended, what it asks to be written, and what it leaves at other
-- keys.
use Rattle.std.proofs.Common.{◌≡◌, refl, ap, ◌∙◌, subst, ℕ, Bool, true, false, List, [], if◌then◌else◌, Option, Some, None, IsSome}
use Rattle.std.specs.Prelude.{unwrap_or}
use Rattle.record_file.specs.split_merge.Places.{is_done, locks_at as merge_locks_at}
use Rattle.record_file.specs.split_merge.declared.merge_place.MergePlace.{MergePlace}
use Rattle.record_file.specs.split_merge.declared.merge_place.MergePlace.TheVariants as to
use Rattle.hash_file.specs.Changes as changes
use Rattle.page_locks.specs.declared.lock.LockKind.TheVariants.{Exclusive}
use Rattle.queue_records.specs.Keys.{guard_of}
use Rattle.record_file.proofs.CallerLemmas.{holds_still}
use Rattle.record_file.specs.Deletes.{DeleteView, IsOver as IsDeleteOver, delete_locks}
use Rattle.record_file.specs.BucketAccesses.{has_ended, locks_in as bucket_locks_in}
use Rattle.record_file.specs.declared.bucket_access.BucketStage.{BucketStage}
use Rattle.record_file.specs.declared.bucket_access.BucketStage.TheVariants as stages
use Rattle.record_file.specs.Inserts.{IsOver as IsInsertOver, locks_in as insert_locks_in}
use Rattle.record_file.specs.SecondTries.{locks_at as second_locks_at, tried_at}
use Rattle.record_file.specs.declared.insert.InsertStage.{InsertStage}
use Rattle.record_file.specs.declared.insert.InsertStage.TheVariants.{First, Second}
use Rattle.record_file.specs.declared.second_place.SecondPlace.{SecondPlace}
use Rattle.record_file.specs.declared.second_place.SecondPlace.TheVariants as seconds
use Rattle.record_file.specs.declared.operation.RecordOperation.TheVariants as operations
use Rattle.record_file.specs.stale_search.Approaches.{ApproachView}
use Rattle.record_file.specs.stale_search.Searches.{SearchView}
use Rattle.record_file.proofs.AccessAimLemmas.{wrote_not, wrote_of}
use Rattle.record_file.proofs.AccessNames.{FileFault, RecordWrite, TurnsAt, WritesAsked, is_same, one_changed}
use Rattle.record_file.specs.Accesses.{IsOfKind}
use Rattle.record_file.specs.Purposes.{ToFind, ToWrite, is_write}
use Rattle.record_file.specs.AccessWords.{Delete, HasEnded, IsSoundWorld, Lock, Moved, OwnsWritten, Progress, RecordKey, RecordOperation, Store, Turn, World, WriteRecord, contents, is_fault, kind_of, operation_key, operation_locks, operation_turn, pair, with_front}

-- ---- its locks

done_free : (place : MergePlace) (a : ApproachView) (before : List Lock) → is_done place ≡ true →
    merge_locks_at place a before ≡ before
done_free to.Done a before is = refl
done_free to.Approaching a before is = absurd cc
done_free (to.ReadBuddy o) a before is = absurd cc
done_free (to.GrantRight b seen) a before is = absurd cc
done_free (to.GiveBack b) a before is = absurd cc
done_free (to.GrantLeft b) a before is = absurd cc
done_free (to.GrantRightAgain b) a before is = absurd cc
done_free (to.LookLeft b) a before is = absurd cc
done_free (to.LookRight b seen) a before is = absurd cc
done_free (to.WriteLeft b left right) a before is = absurd cc
done_free (to.Tombstone j) a before is = absurd cc
done_free (to.Retarget j entry) a before is = absurd cc
done_free (to.SetCounts j) a before is = absurd cc
done_free (to.ReleaseRight j) a before is = absurd cc
done_free (to.ReleaseLeft j) a before is = absurd cc
done_free (to.Convert j) a before is = absurd cc
done_free (to.GrantAlone j) a before is = absurd cc
done_free (to.WriteFree j) a before is = absurd cc
done_free (to.LinkFree page) a before is = absurd cc
done_free (to.LowerDepth page) a before is = absurd cc
done_free (to.ReleaseAlone depth count) a before is = absurd cc
done_free (to.GiveUpRight left right) a before is = absurd cc
done_free (to.GiveUp page) a before is = absurd cc
done_free to.ReleaseDirectory a before is = absurd cc

delete_free : (stage : BucketStage) (d : DeleteView) (before : List Lock) → d.removal.stage ≡ stage →
    IsDeleteOver stage d.merge.place → delete_locks d before ≡ before
delete_free stages.Searching d before is over = absurd over
delete_free (stages.Written n due) d before is over = absurd over
delete_free (stages.Ended true) d before is over =
    rw is (done_free d.merge.place d.merge.approach before over)
delete_free (stages.Ended false) d before is over = rw is refl

bucket_free : (stage : BucketStage) (before : List Lock) (v : SearchView) → has_ended stage ≡ true →
    bucket_locks_in stage v before ≡ before
bucket_free stages.Searching before v is = absurd cc
bucket_free (stages.Written n due) before v is = absurd cc
bucket_free (stages.Ended due) before v is = refl

second_free : (place : SecondPlace) (before : List Lock) → IsSome (tried_at place) →
    second_locks_at place before ≡ before
second_free (seconds.Approaching a) before is = absurd cc
second_free (seconds.Look depth n) before is = absurd cc
second_free (seconds.Hop depth n) before is = absurd cc
second_free (seconds.Write n used) before is = absurd cc
second_free (seconds.Splitting n v) before is = absurd cc
second_free (seconds.GiveBackPage n tried) before is = absurd cc
second_free (seconds.GiveBackDirectory tried) before is = absurd cc
second_free (seconds.Ended tried) before is = refl

insert_free : (stage : InsertStage) (before : List Lock) → IsInsertOver stage → insert_locks_in stage before ≡ before
insert_free (First t said) before is = bucket_free t.stage before t.search is
insert_free (Second t) before is = second_free t.place before is

-- an operation that has ended holds none
pub ended_free : (o : RecordOperation) (before : List Lock) → HasEnded o → operation_locks o before ≡ before
ended_free (operations.Find f) before is = bucket_free f.stage before f.search is
ended_free (operations.Insert i) before is = insert_free i.stage before is
ended_free (operations.Replace r) before is = bucket_free r.stage before r.search is
ended_free (operations.Delete d) before is = delete_free d.removal.stage d before refl is

-- ---- what it owns

pub owns_any : (o : RecordOperation) (held : List Lock) → kind_of held (guard_of (operation_key o)) ≡ Some Exclusive →
    OwnsWritten held o
owns_any (operations.Find f) held owns = tt
owns_any (operations.Insert i) held owns = owns
owns_any (operations.Replace r) held owns = owns
owns_any (operations.Delete d) held owns = owns

pub owns_found : (key : RecordKey) (held : List Lock) (o : RecordOperation) → IsOfKind (ToFind key) o →
    OwnsWritten held o
owns_found key held (operations.Find f) kind = tt
owns_found key held (operations.Insert i) kind = absurd kind
owns_found key held (operations.Replace r) kind = absurd kind
owns_found key held (operations.Delete d) kind = absurd kind

-- ---- what it asks to be written

pub removes_its : (o : RecordOperation) (bytes : List ℕ) (file : Store) (key : RecordKey) →
    IsOfKind (ToWrite (Delete key)) o → (operation_turn o bytes file).write ≡ Some (changes.Remove (operation_key o))
removes_its (operations.Find f) bytes file key kind = absurd kind
removes_its (operations.Insert i) bytes file key kind = absurd kind
removes_its (operations.Replace r) bytes file key kind = absurd kind
removes_its (operations.Delete d) bytes file key kind = refl

pub asks_no_write : (o : RecordOperation) (bytes : List ℕ) (file : Store) (key : RecordKey) → IsOfKind (ToFind key) o →
    (operation_turn o bytes file).write ≡ None
asks_no_write (operations.Find f) bytes file key kind = refl
asks_no_write (operations.Insert i) bytes file key kind = absurd kind
asks_no_write (operations.Replace r) bytes file key kind = absurd kind
asks_no_write (operations.Delete d) bytes file key kind = absurd kind

-- ---- what it leaves at other keys

module _ (hash : RecordKey → ℕ) (seat : ℕ) (did : Progress FileFault) (w w' : World) (sound : IsSoundWorld hash w)
    (fine : is_fault did ≡ false) where
  writes_none : (turn : Turn) → turn.write ≡ None → did ≡ Moved WriteRecord → TurnsAt hash turn did seat w w' → ⊥
  writes_none turn none is does =
      let does' : WritesAsked hash turn.write seat w w' =
      subst (λ (d : Progress FileFault). TurnsAt hash turn d seat w w') is does in
      subst (λ (write : Option RecordWrite). WritesAsked hash write seat w w') none does'

  elsewhere : (turn : Turn) (write : RecordWrite) → turn.write ≡ Some write → did ≡ Moved WriteRecord →
      TurnsAt hash turn did seat w w' → (key : RecordKey) → is_same (changes.key_of write) key ≡ false →
      contents w'.store key ≡ contents w.store key
  elsewhere turn write asked wrote does key other =
      one_changed hash seat turn did w w' write sound wrote asked does key
      ∙ ap (λ (b : Bool). if b then changes.value_after write else contents w.store key) other

  written_elsewhere : (o : RecordOperation) (bytes : List ℕ) → did ≡ Moved WriteRecord →
      TurnsAt hash (operation_turn o bytes w.store) did seat w w' → (key : RecordKey) →
      is_same (operation_key o) key ≡ false → contents w'.store key ≡ contents w.store key
  written_elsewhere (operations.Find f) bytes wrote does key other =
      absurd (writes_none (operation_turn (operations.Find f) bytes w.store) refl wrote does)
  written_elsewhere (operations.Insert i) bytes wrote does key other =
      elsewhere (operation_turn (operations.Insert i) bytes w.store) (changes.Put (pair i.key bytes)) refl wrote does
      key other
  written_elsewhere (operations.Replace r) bytes wrote does key other =
      elsewhere (operation_turn (operations.Replace r) bytes w.store) (changes.Replace
      (pair r.search.key (with_front bytes (unwrap_or (contents w.store r.search.key) [])))) refl wrote does key other
  written_elsewhere (operations.Delete d) bytes wrote does key other =
      elsewhere (operation_turn (operations.Delete d) bytes w.store) (changes.Remove d.removal.search.key) refl wrote
      does key other

  -- at other keys than its own the file holds what it held
  pub others_hold : (o : RecordOperation) (bytes : List ℕ) →
      TurnsAt hash (operation_turn o bytes w.store) did seat w w' → (key : RecordKey) →
      is_same (operation_key o) key ≡ false → contents w'.store key ≡ contents w.store key
  others_hold o bytes does key other = by (is_write did) refl
    where
      by : (b : Bool) → is_write did ≡ b → contents w'.store key ≡ contents w.store key
      by true wrote = written_elsewhere o bytes (wrote_of did wrote) does key other
      by false none =
          holds_still hash seat (operation_turn o bytes w.store) did w w' sound fine (wrote_not did none) does key

  -- a find writes nothing
  pub find_writes_none : (o : RecordOperation) (bytes : List ℕ) → (operation_turn o bytes w.store).write ≡ None →
      TurnsAt hash (operation_turn o bytes w.store) did seat w w' → is_write did ≡ true → ⊥
  find_writes_none o bytes none does wrote =
      writes_none (operation_turn o bytes w.store) none (wrote_of did wrote) does
