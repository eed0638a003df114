-- The caller's names are held as before, and the file holds what it held, but at the key that is written.
use Rattle.std.proofs.Common.{◌≡◌, refl, subst, ℕ, true, false, List, [], Option, None, unwrap_or}
use Rattle.record_file.proofs.OperationNames.{FileFault, MergeView, Turn, TurnsAt, WritesAsked, merge_locks, operation_facts, operation_locks, operation_turn}
use Rattle.record_file.proofs.of_split_merge.CallerLemmas.{merge_adds_locks}
use Rattle.hash_file.specs.Changes as changes
use Rattle.record_file.specs.Callers.{KeepsNames}
use Rattle.record_file.specs.Deletes.{part}
use Rattle.record_file.specs.BucketAccesses.{locks_in}
use Rattle.record_file.specs.Words.{SearchView}
use Rattle.record_file.specs.declared.bucket_access.BucketStage.{BucketStage}
use Rattle.record_file.specs.declared.bucket_access.BucketStage.TheVariants.{Searching, Written, Ended as HasEnded}
use Rattle.record_file.proofs.CallerLemmas.{MovesRow, bucket_aside, stays_told, told_written}
use Rattle.record_file.proofs.InsertCallerLemmas.{guard_aside, insert_aside}
use Rattle.record_file.specs.OperationWords.{RecordKey, pair, with_front, contents, RecordWrite, PoolState, Table, Lock, Change, guard_of, store_of, Progress, Moved, WriteRecord, World, world, DeleteView, delete_locks, RecordOperation, Find, Insert, Replace, Delete}
use Rattle.record_file.specs.OperationCallers.{AddsFileNames, KeepsTold, Stepped, TellsWritten}

delete_aside : (d : DeleteView) → KeepsNames (delete_locks d)
delete_aside d = by d.removal.stage d.removal.search d.merge
  where
    by : (stage : BucketStage) (search : SearchView) (m : MergeView) →
        KeepsNames (λ (before : List Lock). part stage (locks_in stage search before) before (merge_locks m before))
    by Searching search m before key = bucket_aside Searching search before key
    by (Written n due) search m before key = bucket_aside (Written n due) search before key
    by (HasEnded true) search m before key = merge_adds_locks m before (guard_of key) (guard_aside key)
    by (HasEnded false) search m before key = refl

pub operation_aside : AddsFileNames
operation_aside (Find f) = bucket_aside f.stage f.search
operation_aside (Insert i) = insert_aside i
operation_aside (Replace r) = bucket_aside r.stage r.search
operation_aside (Delete d) = delete_aside d

moves : (hash : RecordKey → ℕ) (seat : ℕ) (bytes : List ℕ) (did : Progress FileFault) (old new : RecordOperation)
    (pool pool' : PoolState) (locks locks' : Table) (change : Change) →
    Stepped hash seat bytes did old new pool pool' locks locks' change →
    MovesRow hash seat did pool locks locks' change (operation_locks old) (operation_locks new)
moves hash seat bytes did old new pool pool' locks locks' change made = record {
  seated = made.seated;
  sound = made.sound;
  fine = made.fine;
  old_names = operation_aside old;
  new_names = operation_aside new;
  before = made.before;
  row = made.row;
  is = made.follows;
}

pub keeps_told : KeepsTold
keeps_told hash seat bytes did old new pool pool' locks locks' change made key value other known =
    stays_told hash seat (operation_turn old bytes (store_of pool.images)) did (operation_facts new) pool pool' locks
    locks' change (operation_locks old) (operation_locks new) made.step key value
    (moves hash seat bytes did old new pool pool' locks locks' change made) other known

-- a find writes nothing
finds_only : (hash : RecordKey → ℕ) (seat : ℕ) (turn : Turn) (did : Progress FileFault) (w w' : World) →
    turn.write ≡ None → did ≡ Moved WriteRecord → TurnsAt hash turn did seat w w' → ⊥
finds_only hash seat turn did w w' none is does =
    let does' : WritesAsked hash turn.write seat w w' =
    subst (λ (d : Progress FileFault). TurnsAt hash turn d seat w w') is does in
    subst (λ (write : Option RecordWrite). WritesAsked hash write seat w w') none does'

pub tells_written : TellsWritten
tells_written hash seat bytes did (Find f) new pool pool' locks locks' change made key value is known =
    absurd (finds_only hash seat (operation_turn (Find f) bytes (store_of pool.images)) did
    (world pool.images locks change) (world pool'.images locks' made.step.after) refl is made.step.does)
tells_written hash seat bytes did (Insert i) new pool pool' locks locks' change made key value is known =
    told_written hash seat (operation_turn (Insert i) bytes (store_of pool.images)) did (operation_facts new) pool
    pool' locks locks' change (operation_locks (Insert i)) (operation_locks new) made.step
    (changes.Put (pair i.key bytes)) key value
    (moves hash seat bytes did (Insert i) new pool pool' locks locks' change made) is refl known
tells_written hash seat bytes did (Replace r) new pool pool' locks locks' change made key value is known =
    told_written hash seat (operation_turn (Replace r) bytes (store_of pool.images)) did (operation_facts new) pool
    pool' locks locks' change (operation_locks (Replace r)) (operation_locks new) made.step
    (changes.Replace (pair r.search.key
    (with_front bytes (unwrap_or (contents (store_of pool.images) r.search.key) [])))) key value
    (moves hash seat bytes did (Replace r) new pool pool' locks locks' change made) is refl known
tells_written hash seat bytes did (Delete d) new pool pool' locks locks' change made key value is known =
    told_written hash seat (operation_turn (Delete d) bytes (store_of pool.images)) did (operation_facts new) pool
    pool' locks locks' change (operation_locks (Delete d)) (operation_locks new) made.step
    (changes.Remove d.removal.search.key) key value
    (moves hash seat bytes did (Delete d) new pool pool' locks locks' change made) is refl known
