-- What the seats hold: a row of locks for each seat. Seats count from 1.
use Rattle.std.specs.Prelude.{◌≡◌, ◌≢◌, ℕ, zero, suc, ◌≤◌, true, false, List, [], ◌∷◌, ◌++◌, length, Option, Some, slice_index_or, slice_set}
use Rattle.std.specs.List.{All}
use Rattle.page_locks.specs.declared.lock.Lock.{Lock}
use Rattle.page_locks.specs.declared.lock.LockKind.{LockKind}
use Rattle.page_locks.specs.declared.lock.LockName.{LockName}
use Rattle.page_locks.specs.declared.lock_table.TheConstants.{MAX_SEATS}
use Rattle.page_locks.specs.declared.row.TheConstants.{MAX_LOCKS}
use Rattle.page_locks.specs.Locks.{compatible, is_against, lock_of, kind_of, without, converted, HasNoNameTwice}

abbrev pub Table : Type 0
Table = List (List Lock)

abbrev pub IsSeat : Table → ℕ → Type 0
IsSeat t seat = (1 ≤ seat) × (seat ≤ length t)

-- the locks of a seat; a number that is no seat's has none
abbrev pub row_of : Table → ℕ → List Lock
row_of t zero = []
row_of t (suc place) = slice_index_or t place []

-- the table once a seat's locks have become these
abbrev pub with_row : Table → ℕ → List Lock → Table
with_row t zero locks = t
with_row t (suc place) locks = slice_set t place locks

-- the table once a seat was granted a lock, last in its row
abbrev pub with_lock : Table → ℕ → LockName → LockKind → Table
with_lock t seat name kind = with_row t seat (row_of t seat ++ lock_of name kind ∷ [])

-- the table once a seat has given a name back
abbrev pub without_lock : Table → ℕ → LockName → Table
without_lock t seat name = with_row t seat (without (row_of t seat) name)

-- the table once a seat holds a name in this kind
abbrev pub with_kind : Table → ℕ → LockName → LockKind → Table
with_kind t seat name kind = with_row t seat (converted (row_of t seat) name kind)

-- the kind in which a seat holds a name
abbrev pub held : Table → ℕ → LockName → Option LockKind
held t seat name = kind_of (row_of t seat) name

-- what two seats hold of one name goes together
abbrev pub IsPairwiseCompatible : Table → Type 0
IsPairwiseCompatible t =
    (i j : ℕ) (name : LockName) (k l : LockKind) → i ≢ j →
    held t i name ≡ Some k → held t j name ≡ Some l → compatible k l ≡ true

-- what is true of every table
pub record IsLawful (t : Table) : Type 0 where
  -- there is a seat
  pub some_seat : 1 ≤ length t
  -- and not too many
  pub few_seats : length t ≤ MAX_SEATS
  -- a seat holds few locks
  pub short_rows : All (λ (locks : List Lock). length locks ≤ MAX_LOCKS) t
  -- and each name once
  pub names_once : All HasNoNameTwice t
  -- what two seats hold of one name goes together
  pub pairs : IsPairwiseCompatible t

-- another seat holds the name in a kind that does not go with this one
pub record Opposes (t : Table) (seat : ℕ) (name : LockName) (kind : LockKind) (other : ℕ)
    : Type 0 where
  pub another : other ≢ seat
  pub against : is_against kind (held t other name) ≡ true

-- some other seat does
abbrev pub IsOpposed : Table → ℕ → LockName → LockKind → Type 0
IsOpposed t seat name kind = (other : ℕ) × Opposes t seat name kind other

-- no other seat stands in the way
abbrev pub IsFree : Table → ℕ → LockName → LockKind → Type 0
IsFree t seat name kind = (other : ℕ) → other ≢ seat → is_against kind (held t other name) ≡ false
