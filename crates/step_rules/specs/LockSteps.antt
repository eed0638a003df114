-- The kinds of step that change locks alone, or nothing. docs/STEPS.md, "The kinds of step".
use Rattle.std.specs.Prelude.{ℕ, ◌≡◌, ◌≢◌, ◌<◌, ◌⊎◌, length, Some, None}
use Rattle.std.specs.List.{Contains}
use Rattle.page_locks.specs.declared.lock.LockKind.{LockKind}
use Rattle.page_locks.specs.declared.lock.LockKind.TheVariants.{Selective, Exclusive}
use Rattle.page_locks.specs.declared.lock.LockName.{LockName}
use Rattle.page_locks.specs.declared.lock.LockName.TheVariants.{Directory, Page}
use Rattle.page_locks.specs.declared.row.TheConstants.{MAX_LOCKS}
use Rattle.page_locks.specs.Table.{IsSeat, IsFree, row_of, held, with_lock, without_lock, with_kind}
use Rattle.page_locks.specs.Writers.{IsWriter}
use Rattle.hash_file.specs.Store.{count_at, next_at}
use Rattle.hash_file.specs.Change.{Quiet, Drained, busy}
use Rattle.hash_file.specs.Looks.{Answers}
use Rattle.hash_file.specs.Search.{PageLeads}
use Rattle.step_rules.specs.World.{World, with_locks, IsHeld, IsReached}

-- a lock is granted; a page that is locked leads somewhere
pub record Grants (seat : ℕ) (old new : World) : Type 0 where
  pub seated : IsSeat old.locks seat
  pub room : length (row_of old.locks seat) < MAX_LOCKS
  pub name : LockName
  pub kind : LockKind
  pub fresh : held old.locks seat name ≡ None
  pub free : IsFree old.locks seat name kind
  pub aimed : (page : ℕ) → name ≡ Page page → IsReached old page
  pub is : new ≡ with_locks (with_lock old.locks seat name kind) old

-- who may write the directory gives it back last, when no change is under way; who has it alone gives it back where
-- it has no depth, or a bucket has its depth
pub record IsDone (seat : ℕ) (w : World) : Type 0 where
  pub quiet : w.change ≡ Quiet
  pub bare : (page : ℕ) → held w.locks seat (Page page) ≡ None
  pub halved : held w.locks seat Directory ≡ Some Exclusive →
      (w.store.header.depth ≡ 0) ⊎ (count_at w.store w.store.header.depth ≢ 0)

-- a lock is given back, and no page of which the change under way still speaks
pub record Releases (seat : ℕ) (old new : World) : Type 0 where
  pub seated : IsSeat old.locks seat
  pub name : LockName
  pub had : IsHeld old.locks seat name
  pub idle : (page : ℕ) → name ≡ Page page → IsWriter old.locks seat Directory →
      Contains (busy old.change) page → ⊥
  pub done : name ≡ Directory → IsWriter old.locks seat Directory → IsDone seat old
  pub is : new ≡ with_locks (without_lock old.locks seat name) old

-- something is read under a lock
pub record Reads (name : LockName) (seat : ℕ) (old new : World) : Type 0 where
  pub had : IsHeld old.locks seat name
  pub is : new ≡ old

-- a locked page is read
pub record LooksAt (seat : ℕ) (old new : World) : Type 0 where
  pub page : ℕ
  pub reads : Reads (Page page) seat old new

-- the seat is granted the page that its page names, in the same kind, and gives its page back
pub record MovesOn (page : ℕ) (kind : LockKind) (seat : ℕ) (old new : World) : Type 0 where
  pub seated : IsSeat old.locks seat
  pub room : length (row_of old.locks seat) < MAX_LOCKS
  pub fresh : held old.locks seat (Page (next_at old.store page)) ≡ None
  pub free : IsFree old.locks seat (Page (next_at old.store page)) kind
  pub idle : IsWriter old.locks seat Directory → Contains (busy old.change) page → ⊥
  pub is : new ≡ with_locks
      (without_lock (with_lock old.locks seat (Page (next_at old.store page)) kind) seat (Page page)) old

-- a locked page, which leads to the pseudokey, is read again: it answers now and nothing is done, or it still does not
pub record Hops (seat : ℕ) (old new : World) : Type 0 where
  pub page : ℕ
  pub pseudokey : ℕ
  pub kind : LockKind
  pub had : held old.locks seat (Page page) ≡ Some kind
  pub leads : PageLeads old.store old.change page pseudokey
  pub hops : (Answers old.store page pseudokey × (new ≡ old))
      ⊎ ((Answers old.store page pseudokey → ⊥) × MovesOn page kind seat old new)

-- the directory's lock becomes exclusive, once no entry and no link names the page that a merge took aside
pub record Converts (seat : ℕ) (old new : World) : Type 0 where
  pub seated : IsSeat old.locks seat
  pub left : ℕ
  pub right : ℕ
  pub drained : old.change ≡ Drained left right
  pub had : held old.locks seat Directory ≡ Some Selective
  pub free : IsFree old.locks seat Directory Exclusive
  pub is : new ≡ with_locks (with_kind old.locks seat Directory Exclusive) old
