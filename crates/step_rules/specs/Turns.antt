-- The step relation: what a turn is about, told by the place from which it is made, and what is then done.
-- docs/STEPS.md, "The kinds of step".
use Rattle.std.specs.Prelude.{ℕ, ◌≡◌, ◌<◌, ◌≤◌, ◌+◌, ◌⊎◌, Bool, true, false, Option, Some, None}
use Rattle.std.specs.List.{Contains}
use Rattle.bucket_page.specs.declared.layout.TheConstants.{ROOM_BYTES}
use Rattle.bucket_page.specs.declared.record_key.RecordKey.{RecordKey}
use Rattle.bucket_page.specs.Records.{Pair, lookup}
use Rattle.page_locks.specs.declared.lock.LockKind.{LockKind}
use Rattle.page_locks.specs.declared.lock.LockKind.TheVariants.{Exclusive}
use Rattle.page_locks.specs.declared.lock.LockName.{LockName}
use Rattle.page_locks.specs.declared.lock.LockName.TheVariants.{Key, Counter, Queue, Directory, Page}
use Rattle.page_locks.specs.Table.{Opposes, held}
use Rattle.page_locks.specs.Writers.{IsWriter}
use Rattle.hash_file.specs.Store.{bucket_at, records_at, next_at}
use Rattle.hash_file.specs.Chain.{IsBucketOf}
use Rattle.hash_file.specs.Change.{aside}
use Rattle.hash_file.specs.Changes.{RecordWrite, Put, Remove}
use Rattle.hash_file.specs.Looks.{Answers}
use Rattle.step_rules.specs.declared.kind.Kind.{Kind}
use Rattle.step_rules.specs.declared.kind.Kind.TheVariants.{Grant, Hop, WriteRecord, TakePage, CopyDirectory, RaiseDepth, WriteNew, WriteLeft, Convert}
use Rattle.step_rules.specs.declared.progress.Progress.{Progress}
use Rattle.step_rules.specs.declared.progress.Progress.TheVariants.{Moved, Blocked, Fault, Ended}
use Rattle.step_rules.specs.World.{World, IsHeld}
use Rattle.step_rules.specs.Pages.{used_on, size_of}
use Rattle.step_rules.specs.LockSteps.{Grants, Hops, Converts}
use Rattle.step_rules.specs.PageSteps.{WritesRecord, TakesPage, CopiesDirectory, RaisesDepth, WritesNew, WritesLeft}
use Rattle.step_rules.specs.Does.{Does}

-- what a seat asks for
pub data Ask : Type 0 where
  ForLock : LockName → LockKind → Ask
  -- a search: by this depth, the entry of the pseudokey; the page that it is to lock; an answer of the page on which it
  -- stands; the page behind it
  ForEntry : (depth pseudokey : ℕ) → Ask
  ForPage : (page pseudokey : ℕ) → LockKind → Ask
  ForAnswer : (page pseudokey : ℕ) → Ask
  HopFrom : (page pseudokey : ℕ) → Ask
  ToExclusive : Ask

pub record Turn : Type 0 where
  -- what it reads for, or may be blocked at
  pub ask : Option Ask
  -- the record that its operation is to put, replace or remove
  pub write : Option RecordWrite

-- a turn that asks for nothing, of an operation that writes nothing
abbrev pub no_ask : Turn
no_ask = record { ask = None; write = None }

abbrev pub asks : Ask → Turn
asks a = record { ask = Some a; write = None }

-- ---- locks

-- the order in which a seat takes names
abbrev pub rank_of : LockName → ℕ
rank_of (Key key) = 0
rank_of Counter = 1
rank_of (Queue id) = 2
rank_of Directory = 3
rank_of (Page page) = 4

-- what a seat may be granted
pub record MayBeGranted (name : LockName) (kind : LockKind) (seat : ℕ) (w : World) : Type 0 where
  -- in the order of names
  pub ordered : (other : LockName) → IsHeld w.locks seat other → rank_of other ≤ rank_of name
  -- the directory not exclusively: that is a Convert's
  pub shared : name ≡ Directory → kind ≡ Exclusive → ⊥
  -- a page only who holds the directory
  pub in_directory : (page : ℕ) → name ≡ Page page → IsHeld w.locks seat Directory
  -- and exclusively only the page that a merge took aside, in a directory that is held exclusively
  pub last : (page : ℕ) → name ≡ Page page → kind ≡ Exclusive →
      Contains (aside w.change) page × (held w.locks seat Directory ≡ Some Exclusive)

-- the very lock is granted
pub record GrantsJust (name : LockName) (kind : LockKind) (seat : ℕ) (old new : World) : Type 0 where
  pub grants : Grants seat old new
  pub name_is : grants.name ≡ name
  pub kind_is : grants.kind ≡ kind
  pub may : MayBeGranted name kind seat old

abbrev pub GrantsAsked : Option Ask → ℕ → World → World → Type 0
GrantsAsked (Some (ForLock name kind)) seat old new = GrantsJust name kind seat old new
GrantsAsked (Some (ForPage page pseudokey kind)) seat old new = GrantsJust (Page page) kind seat old new
GrantsAsked ask seat old new = ⊥

-- from this page, for this pseudokey
pub record HopsJust (page pseudokey : ℕ) (seat : ℕ) (old new : World) : Type 0 where
  pub hops : Hops seat old new
  pub page_is : hops.page ≡ page
  pub pseudokey_is : hops.pseudokey ≡ pseudokey

abbrev pub HopsAsked : Option Ask → ℕ → World → World → Type 0
HopsAsked (Some (HopFrom page pseudokey)) seat old new = HopsJust page pseudokey seat old new
HopsAsked ask seat old new = ⊥

abbrev pub ConvertsAsked : Option Ask → ℕ → World → World → Type 0
ConvertsAsked (Some ToExclusive) seat old new = Converts seat old new
ConvertsAsked ask seat old new = ⊥

-- ---- records

-- the very record is written
pub record WritesJust (hash : RecordKey → ℕ) (write : RecordWrite) (seat : ℕ) (old new : World) : Type 0 where
  pub writes : WritesRecord hash seat old new
  pub write_is : writes.write ≡ write

abbrev pub WritesAsked : (RecordKey → ℕ) → Option RecordWrite → ℕ → World → World → Type 0
WritesAsked hash (Some write) seat old new = WritesJust hash write seat old new
WritesAsked hash None seat old new = ⊥

-- the page is the bucket of a record's key, has none of that key, and no room for it
pub record LacksRoom (hash : RecordKey → ℕ) (p : Pair) (page : ℕ) (w : World) : Type 0 where
  pub home : IsBucketOf w.store (hash p.key) page
  pub absent : lookup p.key (records_at w.store page) ≡ None
  pub full : ROOM_BYTES < used_on w.store page + size_of p

-- a split makes room for the record that is to be put: its bucket has none, is the seat's to write, and is not as deep
-- as a bucket can be; and this is so of it
pub record SplitsFor (hash : RecordKey → ℕ) (p : Pair) (seat : ℕ) (w : World) (P : ℕ → Type 0) : Type 0 where
  pub page : ℕ
  pub owned : IsWriter w.locks seat (Page page)
  pub lacks : LacksRoom hash p page w
  pub shallow : (bucket_at w.store page).depth < w.store.layout.greatest
  pub is : P page

abbrev pub SplitsAsked : (RecordKey → ℕ) → Option RecordWrite → ℕ → World → (ℕ → Type 0) → Type 0
SplitsAsked hash (Some (Put p)) seat w P = SplitsFor hash p seat w P
SplitsAsked hash write seat w P = ⊥

-- the directory tells no more bits than the bucket does
abbrev pub IsAsDeep : World → ℕ → Type 0
IsAsDeep w page = (bucket_at w.store page).depth ≡ w.store.header.depth

-- a merge follows a record that was removed: its bucket is one of the two
abbrev pub MergesAsked : (RecordKey → ℕ) → Option RecordWrite → World → (ℕ → Type 0) → Type 0
MergesAsked hash (Some (Remove key)) w P = (page : ℕ) × IsBucketOf w.store (hash key) page × P page
MergesAsked hash write w P = ⊥

-- ---- turns

-- a step of a kind, tied to its turn
abbrev pub DoesTied : (RecordKey → ℕ) → Turn → Kind → ℕ → World → World → Type 0
DoesTied hash turn Grant seat old new = GrantsAsked turn.ask seat old new
DoesTied hash turn Hop seat old new = HopsAsked turn.ask seat old new
DoesTied hash turn Convert seat old new = ConvertsAsked turn.ask seat old new
DoesTied hash turn WriteRecord seat old new = WritesAsked hash turn.write seat old new
DoesTied hash turn TakePage seat old new =
    TakesPage seat old new × SplitsAsked hash turn.write seat old (λ page. Unit {0})
DoesTied hash turn CopyDirectory seat old new =
    CopiesDirectory seat old new × SplitsAsked hash turn.write seat old (IsAsDeep old)
DoesTied hash turn RaiseDepth seat old new =
    RaisesDepth seat old new × SplitsAsked hash turn.write seat old (IsAsDeep old)
DoesTied hash turn WriteNew seat old new =
    (writes : WritesNew hash seat old new) × SplitsAsked hash turn.write seat old (λ page. writes.split ≡ page)
DoesTied hash turn WriteLeft seat old new =
    (writes : WritesLeft seat old new)
    × MergesAsked hash turn.write old (λ page. (page ≡ writes.left) ⊎ (page ≡ writes.right))
DoesTied hash turn kind seat old new = Does hash kind seat old new

-- the seat holds its page, which does not answer, and another seat stands in the way to the page that it names
pub record IsKeptFrom (page pseudokey : ℕ) (seat other : ℕ) (old : World) : Type 0 where
  pub kind : LockKind
  pub had : held old.locks seat (Page page) ≡ Some kind
  pub unanswered : Answers old.store page pseudokey → ⊥
  pub opposes : Opposes old.locks seat (Page (next_at old.store page)) kind other

-- another seat stands in the way of exactly what is asked
abbrev pub StandsInWay : Option Ask → ℕ → ℕ → World → Type 0
StandsInWay None seat other old = ⊥
StandsInWay (Some (ForLock name kind)) seat other old = Opposes old.locks seat name kind other
StandsInWay (Some (ForEntry depth pseudokey)) seat other old = ⊥
StandsInWay (Some (ForPage page pseudokey kind)) seat other old = Opposes old.locks seat (Page page) kind other
StandsInWay (Some (ForAnswer page pseudokey)) seat other old = ⊥
StandsInWay (Some (HopFrom page pseudokey)) seat other old = IsKeptFrom page pseudokey seat other old
StandsInWay (Some ToExclusive) seat other old = Opposes old.locks seat Directory Exclusive other

-- what is done at each answer; after a fault nothing is said of the file
abbrev pub TurnsAt : {F : Type 0} → (RecordKey → ℕ) → Turn → Progress F → ℕ → World → World → Type 0
TurnsAt hash turn (Moved kind) seat old new = DoesTied hash turn kind seat old new
TurnsAt hash turn (Blocked other) seat old new = StandsInWay turn.ask seat other old × (new ≡ old)
TurnsAt hash turn (Fault fault) seat old new = Unit {0}
TurnsAt hash turn Ended seat old new = new ≡ old

abbrev pub is_fault : {F : Type 0} → Progress F → Bool
is_fault (Moved kind) = false
is_fault (Blocked other) = false
is_fault (Fault fault) = true
is_fault Ended = false
