-- Which kinds of lock go together (Ellis 1983), and the locks of one seat, in the order in which
-- they were granted.
use Rattle.std.specs.Prelude.{◌≢◌, ◌==◌, Bool, true, false, not, if◌then◌else◌, List, [], ◌∷◌, map, Option, Some, None}
use Rattle.std.specs.List.{AllPairs, filter}
use Rattle.page_locks.specs.declared.lock.Lock.{Lock}
use Rattle.page_locks.specs.declared.lock.LockKind.{LockKind}
use Rattle.page_locks.specs.declared.lock.LockKind.TheVariants.{Read, Selective, Exclusive}
use Rattle.page_locks.specs.declared.lock.LockName.{LockName}
use Rattle.page_locks.specs.declared.lock.LockName.TheVariants.{Key, Counter, Queue, Directory, Page}

-- two seats may hold one name in these kinds
abbrev pub compatible : LockKind → LockKind → Bool
compatible Read Read = true
compatible Read Selective = true
compatible Read Exclusive = false
compatible Selective Read = true
compatible Selective Selective = false
compatible Selective Exclusive = false
compatible Exclusive Read = false
compatible Exclusive Selective = false
compatible Exclusive Exclusive = false

-- a seat that holds a name so, or not at all, keeps another from holding it in this kind
abbrev pub is_against : LockKind → Option LockKind → Bool
is_against kind None = false
is_against kind (Some other) = not (compatible kind other)

-- whether both are one name
abbrev pub is_same : LockName → LockName → Bool
is_same (Key k) (Key l) = k == l
is_same Counter Counter = true
is_same (Queue i) (Queue j) = i == j
is_same Directory Directory = true
is_same (Page m) (Page n) = m == n
is_same a b = false

-- whether the lock is on the name
abbrev pub is_on : LockName → Lock → Bool
is_on name lock = is_same lock.name name

abbrev pub lock_of : LockName → LockKind → Lock
lock_of name kind = record { name = name; kind = kind }

-- the kind in which the name is held
abbrev pub kind_of : List Lock → LockName → Option LockKind
kind_of [] name = None
kind_of (lock ∷ locks) name = if is_on name lock then Some lock.kind else kind_of locks name

-- the locks but for that on a name
abbrev pub without : List Lock → LockName → List Lock
without locks name = filter (λ lock. not (is_on name lock)) locks

-- a lock on the name becomes one of this kind, any other stays
abbrev pub in_kind : LockName → LockKind → Lock → Lock
in_kind name kind lock = if is_on name lock then record lock { kind = kind } else lock

-- the locks, with that on a name in this kind
abbrev pub converted : List Lock → LockName → LockKind → List Lock
converted locks name kind = map (in_kind name kind) locks

abbrev pub HasNoNameTwice : List Lock → Type 0
HasNoNameTwice locks = AllPairs (λ (a b : Lock). a.name ≢ b.name) locks
