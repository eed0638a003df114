-- What every machine promises of its step.
use Rattle.std.specs.Prelude.{ℕ, ◌≡◌, ◌<◌, true, false, not, List, Option, IsTrue, ⊤}
use Rattle.file_pages.specs.Fault.{FileHasCause, IsDevicesFault}
use Rattle.file_pages.specs.Reads.{OnlyReads}
use Rattle.file_pages.specs.Writes.{OnlyWrites}
use Rattle.file_pages.specs.declared.fault.FileFault.{FileFault}
use Rattle.step_rules.specs.Words.{Lock, Change}
use Rattle.stale_search.specs.Words.{PoolState, RecordKey, Table, row_of, with_row, IsFilePool, store_of, Progress, Moved, Fault, World, IsSoundWorld, Known, AllKnown, Turn}
use Rattle.step_rules.specs.Does.{KeepsOthers}
use Rattle.file_pages.specs.hash_file.Changes.{RecordWrite}
use Rattle.step_rules.specs.Searching.{WalksTo}
use Rattle.step_rules.specs.Turns.{TurnsAt, is_fault}
use Rattle.stale_search.specs.Rows.{HasNoFileLock}

abbrev pub world : List (List ℕ) → Table → Change → World
world images locks change = record { store = store_of images; locks = locks; change = change }

-- the premise of a step: an honest device with a file, a sound world, and what the seat knows
pub record Sees (hash : RecordKey → ℕ) (seat : ℕ) (facts : List Known) (pool : PoolState) (locks : Table)
    (change : Change) : Type 0 where
  pub honest : IsTrue pool.honest
  pub file : IsFilePool pool
  pub sound : IsSoundWorld hash (world pool.images locks change)
  pub known : AllKnown seat (world pool.images locks change) facts

-- what the step leaves: the file is one again, the world is sound, the others keep what they know, the seat knows
-- what its new place says, exactly what the turn is about was done, and a search has gone on its way
pub record Step {F : Type 0} (hash : RecordKey → ℕ) (seat : ℕ) (turn : Turn) (did : Progress F) (facts : List Known)
    (pool pool' : PoolState) (locks locks' : Table) (change : Change) : Type 0 where
  pub after : Change
  pub file : IsFilePool pool'
  pub others : KeepsOthers hash seat (world pool.images locks change) (world pool'.images locks' after)
  pub known : AllKnown seat (world pool'.images locks' after) facts
  pub does : TurnsAt hash turn did seat (world pool.images locks change) (world pool'.images locks' after)
  pub led : WalksTo seat turn.ask did (world pool.images locks change) (world pool'.images locks' after) facts

-- a move leaves fewer steps than there were before, and a fault is the device's
abbrev pub Nears : Progress FileFault → (left left' : ℕ) → PoolState → PoolState → Type 0
Nears (Moved kind) left left' pool pool' = left' < left
Nears (Fault fault) left left' pool pool' = IsDevicesFault pool pool' fault
Nears did left left' pool pool' = ⊤

-- ---- the clauses of a step

-- the fault of a transfer of the device comes only where one has failed in the step, whatever the device gives
abbrev pub StepHasCause : Progress FileFault → (old new : PoolState) → Type 0
StepHasCause did old new = (fault : FileFault) → did ≡ Fault fault → FileHasCause old new fault

-- only frames have changed
pub record ReadsPages (did : Progress FileFault) (old new : PoolState) : Type 0 where
  pub reads : OnlyReads (not (is_fault did)) old new
  pub cause : StepHasCause did old new

-- what is written is a page of the file
pub record WritesPages (did : Progress FileFault) (old new : PoolState) : Type 0 where
  pub writes : OnlyWrites (not (is_fault did)) old new
  pub cause : StepHasCause did old new

-- and after a fault no page has changed
pub record WritesOrSpares (did : Progress FileFault) (old new : PoolState) : Type 0 where
  pub writes : OnlyWrites (not (is_fault did)) old new
  pub cause : StepHasCause did old new
  pub spares : is_fault did ≡ true → IsTrue old.honest → new.images ≡ old.images

-- where a step did not move, also after a fault, the machine is what it was
abbrev pub Stays : {F T : Type 0} → Progress F → (old new : T) → Type 0
Stays (Moved kind) old new = ⊤
Stays did old new = new ≡ old

-- the row of a seat, whose machine has these locks behind those before, becomes that of the next place
abbrev pub FollowsRow : ℕ → (mine mine' : List Lock → List Lock) → (locks locks' : Table) → Type 0
FollowsRow seat mine mine' locks locks' = (before : List Lock) → HasNoFileLock before →
    row_of locks seat ≡ mine before → locks' ≡ with_row locks seat (mine' before)

-- where the seat knows these facts
abbrev pub Advances : ℕ → List Known → Progress FileFault → (left left' : ℕ) → (pool pool' : PoolState) → Table →
    Type 0
Advances seat facts did left left' pool pool' locks = (hash : RecordKey → ℕ) (change : Change) →
    Sees hash seat facts pool locks change → Nears did left left' pool pool'

-- whatever record the operation is to write
abbrev pub MakesStep : {F : Type 0} → ℕ → (List Lock → List Lock) → (facts facts' : List Known) →
    (Option RecordWrite → Turn) → Progress F → (pool pool' : PoolState) → (locks locks' : Table) → Type 0
MakesStep seat mine facts facts' turn did pool pool' locks locks' =
    (hash : RecordKey → ℕ) (change : Change) (write : Option RecordWrite) (before : List Lock) →
    HasNoFileLock before → row_of locks seat ≡ mine before → Sees hash seat facts pool locks change →
    is_fault did ≡ false → Step hash seat (turn write) did facts' pool pool' locks locks' change
