-- Laws of files as they are opened and closed. Each is the contract of a function of opened_laws.rt.
use Rattle.std.specs.Prelude.{ℕ, ◌≡◌, ◌≤◌, Bool, true, false, IsTrue, List, [], replicate}
use Rattle.bucket_page.specs.declared.record_key.RecordKey.{RecordKey}
use Rattle.buffer_pool.specs.Pool.{KeepsImages, PoolState, opened, payloads_of}
use Rattle.hash_file.specs.Change.{Quiet}
use Rattle.page_locks.specs.Table.{Table}
use Rattle.page_locks.specs.declared.lock_table.TheConstants.{MAX_SEATS}
use Rattle.queue_model.specs.State.{State}
use Rattle.file_check.specs.Whole.{IsFileOf}
use Rattle.record_file.specs.stale_search.Steps.{Sees}
use Rattle.files_at_rest.specs.Resting.{IsFileAtRest}

-- a file at rest, and its system is not stopped
pub record IsOpened (hash : RecordKey → ℕ) (s : State) (pool : PoolState) (locks : Table) : Type 0 where
  pub rest : IsFileAtRest hash s pool locks
  pub running : s.stopped ≡ false

-- pages that are the file of a system, opened as a pool of so many frames with a table of locks of so many seats
abbrev pub OpensAtRest : Type 0
OpensAtRest = (hash : RecordKey → ℕ) (content : List (List ℕ)) (s : State) (frames seats faults : ℕ)
    (honest synced : Bool) → IsFileOf hash content s → IsTrue honest → 1 ≤ seats → seats ≤ MAX_SEATS →
    IsOpened hash s (opened frames content honest synced faults) (replicate seats [])

-- all images have come to the device, as where a flush succeeded
pub record IsFlushed (old new : PoolState) : Type 0 where
  pub written : payloads_of new.stored ≡ old.images
  pub keeps : KeepsImages true old new

-- the system with the stop mark cleared, as who opens the file next finds it: the mark stands in no record
abbrev pub restarted : State → State
restarted s = record s { stopped = false }

abbrev pub ClosesAtRest : Type 0
ClosesAtRest = (hash : RecordKey → ℕ) (s : State) (old new : PoolState) (locks : Table) →
    IsFileAtRest hash s old locks → IsFlushed old new → IsFileOf hash new.stored (restarted s)

-- each seat sees a file at rest, and needs to know nothing of it
abbrev pub SeesAtRest : Type 0
SeesAtRest = (hash : RecordKey → ℕ) (s : State) (pool : PoolState) (locks : Table) (seat : ℕ) →
    IsFileAtRest hash s pool locks → Sees hash seat [] pool locks Quiet
