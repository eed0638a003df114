-- What a kernel counts of the searches of its seats, told by its steps and locks alone. docs/STEPS.md, "Search".
use Rattle.std.specs.Prelude.{ℕ, ◌≡◌, ◌-◌, ◌==◌, Bool, true, false, not, ◌&&◌, List, length, Option, Some, None, slice_get}
use Rattle.page_locks.specs.Table.{held}
use Rattle.page_locks.specs.declared.lock.LockKind.{LockKind}
use Rattle.page_locks.specs.declared.lock.LockName.{LockName}
use Rattle.page_locks.specs.declared.lock.LockName.TheVariants.{Key, Counter, Queue, Directory, Page}
use Rattle.xsi_calls.specs.call_writes.WriteRuns.{is_to_search, last_of}
use Rattle.xsi_calls.specs.Machine.{is_searching}
use Rattle.interleaving_core.specs.Active.{ActiveView}
use Rattle.interleaving_core.specs.Counting.{CountsState, Notes}
use Rattle.step_rules.specs.declared.kind.Kind.{Kind}
use Rattle.step_rules.specs.declared.kind.Kind.TheVariants as kinds
use Rattle.interleaving_core.specs.Words.{Lock, Table, row_of}
use Rattle.interleaving_core.specs.Kernel.{KernelState, call_at}
use Rattle.interleaving_core.specs.declared.step.Step.{Step}
use Rattle.interleaving_core.specs.declared.step.Step.TheVariants as steps

-- ---- the page on which a seat stands

-- the page that is named; no bucket is page 0
abbrev pub page_named : LockName → ℕ
page_named (Key key) = 0
page_named Counter = 0
page_named (Queue id) = 0
page_named Directory = 0
page_named (Page page) = page

abbrev pub page_locked : Option Lock → ℕ
page_locked None = 0
page_locked (Some lock) = page_named lock.name

-- the page of the last lock, 0 where there is none or it is on no page
abbrev pub ends_on : List Lock → ℕ
ends_on locks = page_locked (slice_get locks (length locks - 1))

-- ---- what a step is to a search

-- a search begins where its seat is granted the directory to read, and nothing else asks for it so
abbrev pub begins_search : Kind → ℕ → Table → Bool
begins_search kinds.Grant seat new = is_to_search (last_of (row_of new seat))
begins_search kind seat new = false

abbrev pub is_unheld : Option LockKind → Bool
is_unheld None = true
is_unheld (Some kind) = false

-- a hop leads from the page on which the seat stood to another; a second try hops under a lock on the directory
abbrev pub goes_on_from : Kind → ℕ → (before : ℕ) → (new : Table) → Bool
goes_on_from kinds.Hop seat before new =
    is_unheld (held new seat Directory) && not (ends_on (row_of new seat) == before)
goes_on_from kind seat before new = false

abbrev pub goes_on : Kind → ℕ → (old new : Table) → Bool
goes_on kind seat old new = goes_on_from kind seat (ends_on (row_of old seat)) new

-- a search of the seat's call is under way: no page has answered it
abbrev pub searches_at : Option ActiveView → Bool
searches_at None = false
searches_at (Some a) = is_searching a.machine

-- by its Look a page has answered
abbrev pub ends_by : Kind → (searches : Bool) → Bool
ends_by kinds.Look searches = not searches
ends_by kind searches = false

abbrev pub ends_search : Kind → Option ActiveView → Bool
ends_search kind left = ends_by kind (searches_at left)

-- ---- what is counted

-- a step of a seat that stood on this page before it, and has this call left
abbrev pub CountsFrom : ℕ → Step → (before : ℕ) → (left : Option ActiveView) → (new_locks : Table) →
    (old new : CountsState) → Type 0
CountsFrom seat (steps.Moved kind) before left new_locks old new =
    Notes seat kind (begins_search kind seat new_locks) (goes_on_from kind seat before new_locks)
    (ends_search kind left) old new
CountsFrom seat (steps.Blocked other) before left new_locks old new = new ≡ old
CountsFrom seat steps.Waiting before left new_locks old new = new ≡ old
CountsFrom seat (steps.Answered answer) before left new_locks old new = new ≡ old
CountsFrom seat steps.Idle before left new_locks old new = new ≡ old
CountsFrom seat (steps.Fault fault) before left new_locks old new = new ≡ old

-- each step that moves, and no other
abbrev pub Counts : {K : Type 0} → ℕ → Step → (old new : KernelState K) → Type 0
Counts seat (steps.Moved kind) old new =
    Notes seat kind (begins_search kind seat new.locks) (goes_on kind seat old.locks new.locks)
    (ends_search kind (call_at new.seats seat)) old.searches new.searches
Counts seat (steps.Blocked other) old new = new.searches ≡ old.searches
Counts seat steps.Waiting old new = new.searches ≡ old.searches
Counts seat (steps.Answered answer) old new = new.searches ≡ old.searches
Counts seat steps.Idle old new = new.searches ≡ old.searches
Counts seat (steps.Fault fault) old new = new.searches ≡ old.searches
