-- A record that is written in one go, by each machine of a call: its moves, and which of them begins a search.
-- docs/STEPS.md, "Search".
use Rattle.std.specs.Prelude.{ℕ, ◌≡◌, ◌-◌, Bool, true, false, List, [], ◌∷◌, length, Option, Some, None, slice_get}
use Rattle.page_locks.specs.declared.lock.LockKind.{LockKind}
use Rattle.page_locks.specs.declared.lock.LockKind.TheVariants.{Read}
use Rattle.page_locks.specs.declared.lock.LockName.{LockName}
use Rattle.page_locks.specs.declared.lock.LockName.TheVariants.{Directory}
use Rattle.record_file.specs.file_pages.declared.fault.FileFault.{FileFault}
pub use Rattle.record_file.specs.stale_search.SearchRuns.{At, at}
pub use Rattle.record_file.specs.step_rules.Runs.{MovesAlong, Stop, stop}
pub use Rattle.record_file.specs.step_rules.declared.kind.Kind.{Kind}
use Rattle.record_file.specs.step_rules.declared.kind.Kind.TheVariants as kinds
use Rattle.call_writes.specs.WriteWords.{Lock, PoolState, Progress, Table, row_of}
use Rattle.call_writes.specs.declared.at_once.AtOnce.{AtOnce}
use Rattle.call_writes.specs.declared.at_once.AtOnce.TheVariants.{Made, Left, Over}

-- ---- searches

-- the lock that a seat with this row was granted last
abbrev pub last_of : List Lock → Option Lock
last_of row = slice_get row (length row - 1)

-- the directory, to read: a search asks for it first, and nothing else does
abbrev pub is_directory_read : LockName → LockKind → Bool
is_directory_read Directory Read = true
is_directory_read name kind = false

abbrev pub is_to_search : Option Lock → Bool
is_to_search None = false
is_to_search (Some lock) = is_directory_read lock.name lock.kind

-- ---- its moves

-- what a machine promises of a step
abbrev pub Promise : Type 0 → Type 1
Promise V = Progress FileFault → (old new : V) → (pool pool' : PoolState) → (locks locks' : Table) → Type 0

-- a step that a machine promises
abbrev pub AskStep : {V : Type 0} → Promise V → Progress FileFault → (old new : At V) → Type 0
AskStep Makes did old new = Makes did old.machine new.machine old.pool new.pool old.locks new.locks

-- where a machine stands on the way to a page, behind each move up to the Look
pub record Way (S : Type 0) : Type 0 where
  -- the directory is locked, its depth was read, and the entry that names the page
  pub locked : S
  pub deep : S
  pub named : S
  -- the page is locked, the directory given back, and the page looked at
  pub arrived : S
  pub alone : S
  pub looked : S

-- of its moves the first one alone begins a search: the other Grant is that of the page
pub record SearchesOnce {V : Type 0} (seat : ℕ) (way : Way (At V)) : Type 0 where
  pub begins : is_to_search (last_of (row_of way.locked.locks seat)) ≡ true
  pub once : is_to_search (last_of (row_of way.arrived.locks seat)) ≡ false

-- the moves of a write: behind the Look the record is written, and by the last one the page is given back
abbrev pub stops_through : {S : Type 0} → Way S → (written new : S) → List (Stop S)
stops_through way written new =
    stop kinds.Grant way.locked
    ∷ stop kinds.ReadDepth way.deep
    ∷ stop kinds.ReadEntry way.named
    ∷ stop kinds.Grant way.arrived
    ∷ stop kinds.Release way.alone
    ∷ stop kinds.Look way.looked
    ∷ stop kinds.WriteRecord written
    ∷ stop kinds.Release new
    ∷ []

-- a record is written by such moves; the locks are then what they were. Its search is over behind the Look
pub record WritesAtOnce {V : Type 0} (Makes : Promise V) (searches : V → Bool) (seat : ℕ) (old new : V)
    (pool pool' : PoolState) (locks : Table) : Type 0 where
  pub way : Way (At V)
  pub written : At V
  pub moves : MovesAlong (AskStep Makes) (at old pool locks) (stops_through way written (at new pool' locks))
  pub counted : SearchesOnce seat way
  pub answered : searches way.looked.machine ≡ false

-- where the next record was to be written so: it is, or nothing is done, and at the end this is so
abbrev pub TriesAtOnce : {V : Type 0} → (Ends : V → Type 0) → (Goes : Type 0) → AtOnce → (old new : V) →
    (pool pool' : PoolState) → Type 0
TriesAtOnce Ends Goes Made old new pool pool' = Goes
TriesAtOnce Ends Goes Left old new pool pool' = (new ≡ old) × (pool' ≡ pool)
TriesAtOnce Ends Goes Over old new pool pool' = Ends old × ((new ≡ old) × (pool' ≡ pool))
