-- What the seats of a trial hold.
use Rattle.std.specs.Prelude.{ℕ, suc, ◌≡◌, ◌≤◌, List, [], ◌∷◌, length, replicate, Option, Some, None, slice_get, ⊤}
use Rattle.page_locks.specs.declared.lock.Lock.{Lock}
use Rattle.page_locks.specs.declared.lock.LockKind.TheVariants.{Exclusive}
use Rattle.page_locks.specs.declared.lock.LockName.{LockName}
use Rattle.page_locks.specs.Locks.{lock_of}
use Rattle.page_locks.specs.Table.{Table, row_of, with_row}
use Rattle.buffer_pool.specs.Pool.{PoolState}
use Rattle.file_pages.specs.Files.{IsReady}
use Rattle.stale_search.specs.Rows.{HasNoFileLock}
use Rattle.stale_search.specs.Searches.{search_locks}
use Rattle.record_file.specs.Operations.{MayBeLent, operation_locks}
use Rattle.record_file.specs.Accesses.{access_locks}
use Rattle.machine_trials.specs.declared.task.Task.{Task}
use Rattle.machine_trials.specs.declared.task.TheConstants.{MAX_VALUE_BYTES}
use Rattle.machine_trials.specs.declared.work.Work.{Work}
use Rattle.machine_trials.specs.declared.work.Work.TheVariants.{Operation, Access, Search}

-- of the directory and of pages
abbrev pub MOST_LOCKS : ℕ
MOST_LOCKS = 3

-- its locks, behind those that its seat had before
abbrev pub work_locks : Work → List Lock → List Lock
work_locks (Operation o) before = operation_locks o before
work_locks (Access a) before = access_locks a before
work_locks (Search s) before = search_locks s before

-- as many bytes may be lent to it
abbrev pub MayLend : ℕ → Work → Type 0
MayLend bytes (Operation o) = MayBeLent bytes o
MayLend bytes (Access a) = ⊤
MayLend bytes (Search s) = ⊤

-- it holds nothing yet, and a value of any length may be lent to it
pub record IsBegun (w : Work) : Type 0 where
  pub bare : (before : List Lock) → work_locks w before ≡ before
  pub lent : (bytes : ℕ) → MayLend bytes w

-- the lock of a record
abbrev pub guarded : LockName → List Lock
guarded name = lock_of name Exclusive ∷ []

-- it is on no page, and not on the directory
abbrev pub IsGuard : LockName → Type 0
IsGuard name = HasNoFileLock (guarded name)

-- the seat holds the lock of the record, and behind it what its work says, and the value may be lent
pub record IsAtWork (t : Task) (name : LockName) (row : List Lock) : Type 0 where
  pub guard : IsGuard name
  pub locks : row ≡ work_locks t.work (guarded name)
  pub few : t.value.bytes ≤ MAX_VALUE_BYTES
  pub lent : MayLend t.value.bytes t.work

-- of a seat that gave the lock of the record back nothing is said
abbrev pub HoldsGuard : Task → Option LockName → List Lock → Type 0
HoldsGuard t (Some name) row = IsAtWork t name row
HoldsGuard t None row = ⊤

-- an idle seat holds nothing
abbrev pub Holds : Option Task → List Lock → Type 0
Holds None row = row ≡ []
Holds (Some t) row = HoldsGuard t t.guard row

-- one row has changed, and is what its seat holds
pub record Follows (seat : ℕ) (old : Table) (s : Option Task) (new : Table) : Type 0 where
  pub row : List Lock
  pub is : new ≡ with_row old seat row
  pub holds : Holds s row

-- so many seats, which have not begun
abbrev pub AreIdle : ℕ → List (Option Task) → Type 0
AreIdle many seats = seats ≡ replicate many None

-- nothing is pinned, and each seat holds what its task says
pub record IsTrial (pool : PoolState) (t : Table) (seats : List (Option Task)) : Type 0 where
  pub ready : IsReady pool
  pub as_many : length seats ≡ length t
  pub holds : (place : ℕ) (s : Option Task) → slice_get seats place ≡ Some s → Holds s (row_of t (suc place))
