-- The caller's names are held as before, and the file holds what it held, but at a key that is written.
use Rattle.std.proofs.Common.{◌≡◌, refl, sym, ap, ◌∙◌, subst, ℕ, List, [], ◌∷◌, Option, Some, None, IsSome, ◌==◌, Bool, true, false, if◌then◌else◌}
use Rattle.record_file.proofs.Names.{COUNTER, ChangesRecord, Counter, FileFault, Found, GrantDirectory, GrantPage, Hop, KEY, KeepsContents, Key, LockName, Queue, ReadDepth, ReadEntry, ReleaseDirectory, SearchPlace, TurnsAt, WritesAsked, changes_just, first_kind, is_of_its_kind, is_same, key_of, kind_keeps_contents, kind_of-append, locks_at, row_of-same, value_after}
use Rattle.bucket_page.specs.Keys.{is_same as is_same_key}
use Rattle.step_rules.specs.declared.progress.Progress.TheVariants as answers
use Rattle.step_rules.specs.Known.{Told}
use Rattle.split_merge.specs.stale_search.declared.place.SearchPlace.TheVariants.{Look as AtLook}
use Rattle.record_file.specs.Words.{RecordKey, RecordWrite, PoolState, Table, Lock, LockKind, Read, Directory, Page, Change, IsKnown, IsSeat, Known, Step, row_of, with_row, held, kind_of, lock_of, guard_of, contents, Progress, Moved, WriteRecord, World, IsHeld, Turn, IsSoundWorld, is_fault, world, SearchView, search_locks, in_directory, on_page}
use Rattle.record_file.specs.Callers.{KeepsNames}
use Rattle.record_file.specs.BucketAccesses.{locks_in}
use Rattle.record_file.specs.declared.bucket_access.BucketStage.{BucketStage}
use Rattle.record_file.specs.declared.bucket_access.BucketStage.TheVariants.{Searching, Written, Ended as HasEnded}

first : (o : Option LockKind) → first_kind o None ≡ o
first None = refl
first (Some k) = refl

-- a record is guarded by a name that is neither the directory's nor a page's
record IsAside (name : LockName) : Type 0 where
  pub not_directory : is_same Directory name ≡ false
  pub not_page : (n : ℕ) → is_same (Page n) name ≡ false

guard_aside : (key : RecordKey) → IsAside (guard_of key)
guard_aside key = by (key.kind == COUNTER) (key.kind == KEY)
  where
    by : (a b : Bool) → IsAside (if a then Counter else if b then Key key.number else Queue key.queue)
    by true b = record { not_directory = refl; not_page = λ n. refl }
    by false true = record { not_directory = refl; not_page = λ n. refl }
    by false false = record { not_directory = refl; not_page = λ n. refl }

directory_aside : KeepsNames (in_directory Read)
directory_aside before key =
    kind_of-append before (lock_of Directory Read ∷ []) (guard_of key)
    ∙ rw ((guard_aside key).not_directory) (first (kind_of before (guard_of key)))

page_aside : (n : ℕ) (kind : LockKind) → KeepsNames (on_page n kind)
page_aside n kind before key =
    kind_of-append before (lock_of (Page n) kind ∷ []) (guard_of key)
    ∙ rw ((guard_aside key).not_page n) (first (kind_of before (guard_of key)))

place_aside : (place : SearchPlace) (kind : LockKind) → KeepsNames (locks_at place kind)
place_aside GrantDirectory kind before key = refl
place_aside ReadDepth kind before key = directory_aside before key
place_aside (ReadEntry depth) kind before key = directory_aside before key
place_aside (GrantPage n) kind before key = directory_aside before key
place_aside (ReleaseDirectory n) kind before key =
    page_aside n kind (in_directory Read before) key ∙ directory_aside before key
place_aside (AtLook n) kind before key = page_aside n kind before key
place_aside (Hop n) kind before key = page_aside n kind before key
place_aside (Found n found) kind before key = page_aside n kind before key

search_aside : (v : SearchView) → KeepsNames (search_locks v)
search_aside v before key = place_aside v.place v.kind before key

pub bucket_aside : (stage : BucketStage) (v : SearchView) → KeepsNames (locks_in stage v)
bucket_aside Searching v before key = search_aside v before key
bucket_aside (Written n due) v before key = page_aside n v.kind before key
bucket_aside (HasEnded due) v before key = refl

-- ---- what is known

-- a step of a seat's machine, which takes its row of locks from one place's to the next one's
pub record MovesRow {F : Type 0} (hash : RecordKey → ℕ) (seat : ℕ) (did : Progress F) (pool : PoolState)
    (locks locks' : Table) (change : Change) (old_locks new_locks : List Lock → List Lock) : Type 0 where
  pub seated : IsSeat locks seat
  pub sound : IsSoundWorld hash (world pool.images locks change)
  pub fine : is_fault did ≡ false
  pub old_names : KeepsNames old_locks
  pub new_names : KeepsNames new_locks
  pub before : List Lock
  pub row : row_of locks seat ≡ old_locks before
  pub is : locks' ≡ with_row locks seat (new_locks before)

-- what the file holds at a key stays known through a step that writes no record
abbrev pub StaysTold : Type 0
StaysTold = (hash : RecordKey → ℕ) (seat : ℕ) (turn : Turn) (did : Progress FileFault) (facts : List Known)
    (pool pool' : PoolState) (locks locks' : Table) (change : Change) (old_locks new_locks : List Lock → List Lock)
    (step : Step hash seat turn did facts pool pool' locks locks' change) (key : RecordKey)
    (value : Option (List ℕ)) → MovesRow hash seat did pool locks locks' change old_locks new_locks →
    (did ≡ Moved WriteRecord → ⊥) → IsKnown seat (world pool.images locks change) (Told key value) →
    IsKnown seat (world pool'.images locks' step.after) (Told key value)

-- and is what was written, at the key that a step writes
abbrev pub IsToldWritten : Type 0
IsToldWritten = (hash : RecordKey → ℕ) (seat : ℕ) (turn : Turn) (did : Progress FileFault) (facts : List Known)
    (pool pool' : PoolState) (locks locks' : Table) (change : Change) (old_locks new_locks : List Lock → List Lock)
    (step : Step hash seat turn did facts pool pool' locks locks' change) (write : RecordWrite) (key : RecordKey)
    (value : Option (List ℕ)) → MovesRow hash seat did pool locks locks' change old_locks new_locks →
    did ≡ Moved WriteRecord → turn.write ≡ Some write →
    IsKnown seat (world pool.images locks change) (Told key value) →
    IsKnown seat (world pool'.images locks' step.after)
    (Told key (if is_same_key (key_of write) key then value_after write else value))

module _ (hash : RecordKey → ℕ) (seat : ℕ) (did : Progress FileFault) (pool : PoolState) (locks locks' : Table)
    (change : Change) (old_locks new_locks : List Lock → List Lock)
    (moves : MovesRow hash seat did pool locks locks' change old_locks new_locks) where
  held_still : (key : RecordKey) → IsHeld locks seat (guard_of key) → IsHeld locks' seat (guard_of key)
  held_still key there =
      let row' : row_of locks' seat ≡ new_locks moves.before =
      ap (λ (t : Table). row_of t seat) moves.is ∙ row_of-same locks seat (new_locks moves.before) moves.seated in
      let same : held locks seat (guard_of key) ≡ held locks' seat (guard_of key) =
      ap (λ (xs : List Lock). kind_of xs (guard_of key)) moves.row ∙ moves.old_names moves.before key
      ∙ sym (moves.new_names moves.before key) ∙ sym (ap (λ (xs : List Lock). kind_of xs (guard_of key)) row') in
      subst IsSome same there

pub holds_still : (hash : RecordKey → ℕ) (seat : ℕ) (turn : Turn) (did : Progress FileFault) (old new : World) →
    IsSoundWorld hash old → is_fault did ≡ false → (did ≡ Moved WriteRecord → ⊥) → TurnsAt hash turn did seat old new →
    KeepsContents old.store new.store
holds_still hash seat turn (answers.Moved kind) old new sound fine other does =
    kind_keeps_contents kind hash seat old new sound (λ same. other (ap Moved same))
    (is_of_its_kind hash seat old new turn kind does)
holds_still hash seat turn (answers.Blocked seat') old new sound fine other does =
    λ key. ap (λ (w : World). contents w.store key) does.1
holds_still hash seat turn (answers.Fault fault) old new sound fine other does = absurd cc
holds_still hash seat turn answers.Ended old new sound fine other does =
    λ key. ap (λ (w : World). contents w.store key) does

pub stays_told : StaysTold
stays_told hash seat turn did facts pool pool' locks locks' change old_locks new_locks step key value moves other
    known = (
      held_still hash seat did pool locks locks' change old_locks new_locks moves key known.0,
      holds_still hash seat turn did (world pool.images locks change) (world pool'.images locks' step.after) moves.sound
          moves.fine other step.does key ∙ known.1,
    )

pub one_changed : (hash : RecordKey → ℕ) (seat : ℕ) (turn : Turn) (did : Progress FileFault) (old new : World)
    (write : RecordWrite) → IsSoundWorld hash old → did ≡ Moved WriteRecord → turn.write ≡ Some write →
    TurnsAt hash turn did seat old new → ChangesRecord write old.store new.store
one_changed hash seat turn did old new write sound is asked does =
    let does' : WritesAsked hash turn.write seat old new =
    subst (λ (d : Progress FileFault). TurnsAt hash turn d seat old new) is does in
    changes_just hash seat write old new sound
    (subst (λ (w : Option RecordWrite). WritesAsked hash w seat old new) asked does')

pub told_written : IsToldWritten
told_written hash seat turn did facts pool pool' locks locks' change old_locks new_locks step write key value moves is
    asked known = (
      held_still hash seat did pool locks locks' change old_locks new_locks moves key known.0,
      one_changed hash seat turn did (world pool.images locks change) (world pool'.images locks' step.after) write
          moves.sound is asked step.does key
          ∙ ap (λ (v : Option (List ℕ)). if is_same_key (key_of write) key then value_after write else v) known.1,
    )
