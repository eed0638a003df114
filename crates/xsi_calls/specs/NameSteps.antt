-- The steps in which a name is taken or given back. docs/STEPS.md, "The kinds of step".
use Rattle.std.specs.Prelude.{ℕ, ◌≡◌, List, [], ◌∷◌, ◌++◌, Option}
use Rattle.page_locks.specs.declared.lock.Lock.{Lock}
use Rattle.file_pages.specs.hash_file.Changes.{RecordWrite}
use Rattle.step_rules.specs.declared.kind.Kind.TheVariants as kinds
use Rattle.step_rules.specs.Words.{Change}
use Rattle.call_writes.specs.call_decisions.stale_search.Words.{Ask, Blocked, Ended, Moved, Opposes, PoolState, Progress, RecordKey, Table}
use Rattle.call_writes.specs.call_decisions.stale_search.Steps.{Sees, Step}

-- the lock stands last among those that are held, or another seat stands in its way and all stays
abbrev pub Takes : {F : Type 0} → Progress F → ℕ → Lock → Table → (held held' : List Lock) → Type 0
Takes (Moved kind) seat lock locks held held' = (kind ≡ kinds.Grant) × (held' ≡ held ++ lock ∷ [])
Takes (Blocked other) seat lock locks held held' =
    Opposes locks seat lock.name lock.kind other × (held' ≡ held)
Takes did seat lock locks held held' = ⊥

-- the last of those that were held is gone, or there was none
abbrev pub GivesBack : {F : Type 0} → Progress F → (held held' : List Lock) → Type 0
GivesBack (Moved kind) held held' = (kind ≡ kinds.Release) × ((last : Lock) × (held ≡ held' ++ last ∷ []))
GivesBack Ended held held' = (held ≡ []) × (held' ≡ [])
GivesBack did held held' = ⊥

-- a step of a seat that knows nothing of the file, over whatever pool, and whatever record its call is to write
abbrev pub MakesNameStep : {F : Type 0} → ℕ → Option Ask → Progress F → (locks locks' : Table) → Type 0
MakesNameStep seat ask did locks locks' =
    (hash : RecordKey → ℕ) (pool : PoolState) (change : Change) (write : Option RecordWrite) →
    Sees hash seat [] pool locks change →
    Step hash seat (record { ask = ask; write = write }) did [] pool pool locks locks' change
