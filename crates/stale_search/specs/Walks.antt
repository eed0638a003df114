-- The walk of a search: how far it has come, and the hops that it made. docs/STEPS.md, "Search".
use Rattle.std.specs.Prelude.{ℕ, suc, ◌≡◌, ◌≤◌, true, false, Option, Some, None}
use Rattle.file_pages.specs.hash_file.Changes.{RecordWrite}
use Rattle.file_pages.specs.declared.fault.FileFault.{FileFault}
use Rattle.step_rules.specs.Words.{Change}
use Rattle.step_rules.specs.Turns.{is_fault}
use Rattle.step_rules.specs.Walks.{WalkStage, Entered, HasRead, IsAt, SearchWalk, IsOnItsWay, begun_walk}
use Rattle.stale_search.specs.Words.{RecordKey, PoolState, Table, Progress, World, SearchPlace, GrantDirectory, ReadDepth, ReadEntry, GrantPage, ReleaseDirectory, Look, Hop, Found}
use Rattle.stale_search.specs.Steps.{Sees, Step, world}
use Rattle.stale_search.specs.Searches.{SearchView, KeepsAim, search_facts, search_turn}

abbrev pub stage_at : SearchPlace → Option WalkStage
stage_at GrantDirectory = None
stage_at ReadDepth = Some Entered
stage_at (ReadEntry depth) = Some (HasRead depth)
stage_at (GrantPage n) = Some (IsAt n)
stage_at (ReleaseDirectory n) = Some (IsAt n)
stage_at (Look n) = Some (IsAt n)
stage_at (Hop n) = Some (IsAt n)
stage_at (Found n found) = Some (IsAt n)

-- from this place, with these hops counted, a seat is on a walk to the bucket of pseudokey k
pub record IsWalkAt (seat k : ℕ) (place : SearchPlace) (count : ℕ) (w : World) (walk : SearchWalk) : Type 0 where
  pub stage : stage_at place ≡ Some walk.stage
  pub counted : count ≤ walk.hops
  pub way : IsOnItsWay seat k walk w

abbrev pub IsWalking : ℕ → SearchView → World → SearchWalk → Type 0
IsWalking seat v w walk = IsWalkAt seat v.pseudokey v.place v.hops w walk

-- its walk after an own step, to which nothing was added but perhaps a hop of its own
pub record GoesOn (seat k : ℕ) (place : SearchPlace) (count : ℕ) (w : World) (walk : SearchWalk) : Type 0 where
  pub next : SearchWalk
  pub walking : IsWalkAt seat k place count w next
  pub added : next.added ≡ walk.added
  pub calm : next.calm ≡ walk.calm

-- an own step, between these places and counts
pub record WalksOn (seat k : ℕ) (place place' : SearchPlace) (count count' : ℕ) (w w' : World) : Type 0 where
  -- a walk begins with the grant of the directory
  pub begins : stage_at place ≡ None → stage_at place' ≡ Some Entered →
      IsWalkAt seat k place' count' w' (begun_walk w'.change)
  -- and every later step takes it on
  pub goes_on : (walk : SearchWalk) → IsWalkAt seat k place count w walk → GoesOn seat k place' count' w' walk

-- by what the clauses `aim` and `step` of a step say
abbrev pub SearchWalksOn : Type 0
SearchWalksOn = (hash : RecordKey → ℕ) (seat : ℕ) (write : Option RecordWrite) (did : Progress FileFault)
    (v v' : SearchView) (pool pool' : PoolState) (locks locks' : Table) (change : Change) → is_fault did ≡ false →
    Sees hash seat (search_facts v) pool locks change → KeepsAim did pool v v' →
    (s : Step hash seat (search_turn v write) did (search_facts v') pool pool' locks locks' change) →
    WalksOn seat v.pseudokey v.place v'.place v.hops v'.hops (world pool.images locks change)
    (world pool'.images locks' s.after)

-- a search counts one hop more at most than the others may have added, and none where no change was under way
pub record CountsFew (v : SearchView) (walk : SearchWalk) : Type 0 where
  pub few : v.hops ≤ suc walk.added
  pub calm : walk.calm ≡ true → v.hops ≡ 0

abbrev pub SearchCountsFew : Type 0
SearchCountsFew = (seat : ℕ) (v : SearchView) (w : World) (walk : SearchWalk) → IsWalking seat v w walk →
    CountsFew v walk
