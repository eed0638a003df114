-- A search that goes straight to the page that answers: its states on the way. docs/STEPS.md, "Search".
use Rattle.std.specs.Prelude.{ℕ, ◌≡◌, List, [], ◌∷◌, ◌++◌, length, Option}
use Rattle.std.specs.Option.{option_map}
use Rattle.file_pages.specs.bucket_page.Records.{lookup}
use Rattle.file_pages.specs.declared.fault.FileFault.{FileFault}
use Rattle.file_pages.specs.hash_file.Store.{records_at}
use Rattle.step_rules.specs.Runs.{MovesAlong, Stop, stop, stops_in}
use Rattle.step_rules.specs.Words.{Lock}
use Rattle.step_rules.specs.declared.kind.Kind.TheVariants as kinds
use Rattle.stale_search.specs.Words.{PoolState, Table, row_of, with_row, store_of, Progress, SearchPlace, ReadDepth, ReadEntry, GrantPage, ReleaseDirectory, Look, Found}
use Rattle.stale_search.specs.Steps.{Advances, FollowsRow, MakesStep, ReadsPages}
use Rattle.stale_search.specs.Searches.{SearchView, GivesAnswer, KeepsAim, search_facts, search_locks, search_turn, left_in}

-- a machine between two steps, with the pool and the locks
pub record At (V : Type 0) : Type 0 where
  pub machine : V
  pub pool : PoolState
  pub locks : Table

abbrev pub at : {V : Type 0} → V → PoolState → Table → At V
at v pool locks = record { machine = v; pool = pool; locks = locks }

-- the machine, with its locks after those that the seat had
abbrev pub standing : {V : Type 0} → (V → List Lock → List Lock) → ℕ → PoolState → Table → V → At V
standing locks_of seat pool locks v = at v pool (with_row locks seat (locks_of v (row_of locks seat)))

-- a machine that has no lock
abbrev pub HasNoLock : (List Lock → List Lock) → Type 0
HasNoLock locks = (before : List Lock) → locks before ≡ before

-- ---- its steps

-- a step, and all that is promised of it
pub record SearchStep (seat : ℕ) (did : Progress FileFault) (old new : At SearchView) : Type 0 where
  pub reads : ReadsPages did old.pool new.pool
  pub aim : KeepsAim did old.pool old.machine new.machine
  pub row : FollowsRow seat (search_locks old.machine) (search_locks new.machine) old.locks new.locks
  pub progress : Advances seat (search_facts old.machine) did (left_in old.machine old.pool)
      (left_in new.machine new.pool) old.pool new.pool old.locks
  pub step : MakesStep seat (search_locks old.machine) (search_facts old.machine) (search_facts new.machine)
      (search_turn old.machine) did old.pool new.pool old.locks new.locks
  pub answer : GivesAnswer seat did old.machine new.machine old.pool old.locks

-- ---- its way

abbrev pub search_at : SearchPlace → SearchView → SearchView
search_at place v = record v { place = place }

-- its places up to where it looks at the page, by a directory of this depth
abbrev pub way_up_to : (depth page : ℕ) → List (Stop SearchPlace)
way_up_to depth page =
    stop kinds.Grant ReadDepth
    ∷ stop kinds.ReadDepth (ReadEntry depth)
    ∷ stop kinds.ReadEntry (GrantPage page)
    ∷ stop kinds.Grant (ReleaseDirectory page)
    ∷ stop kinds.Release (Look page)
    ∷ []

-- and where that page answers
abbrev pub way_to : (depth page : ℕ) → Option ℕ → List (Stop SearchPlace)
way_to depth page found = way_up_to depth page ++ stop kinds.Look (Found page found) ∷ []

-- its states, from where it has not begun
abbrev pub search_stops : ℕ → (page : ℕ) → Option ℕ → At SearchView → List (Stop (At SearchView))
search_stops seat page found old =
    stops_in (λ (place : SearchPlace). standing search_locks seat old.pool old.locks (search_at place old.machine))
    (way_to (store_of old.pool.images).header.depth page found)

-- the page has of the key a value of this length, or none
abbrev pub HasAt : (page : ℕ) → Option ℕ → SearchView → PoolState → Type 0
HasAt page found v pool = found ≡ option_map length (lookup v.key (records_at (store_of pool.images) page))

-- it moves to where that page answers what it has
abbrev pub GoesStraight : ℕ → (page : ℕ) → SearchView → PoolState → Table → Type 0
GoesStraight seat page v pool locks = (found : Option ℕ) → HasAt page found v pool →
    MovesAlong (SearchStep seat) (at v pool locks) (search_stops seat page found (at v pool locks))
