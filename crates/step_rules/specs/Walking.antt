-- How a search that is told by what its seat knows goes on, beside the steps of the others. docs/STEPS.md, "Search".
use Rattle.std.specs.Prelude.{ℕ, suc, ◌≡◌, ◌≢◌, ◌⊎◌, List, [], ◌∷◌, Some, ⊤}
use Rattle.bucket_page.specs.declared.record_key.RecordKey.{RecordKey}
use Rattle.page_locks.specs.declared.lock.LockKind.TheVariants.{Read}
use Rattle.page_locks.specs.declared.lock.LockName.TheVariants.{Directory}
use Rattle.page_locks.specs.Table.{held}
use Rattle.hash_file.specs.Change.{Change}
use Rattle.step_rules.specs.declared.kind.Kind.{Kind}
use Rattle.step_rules.specs.declared.kind.Kind.TheVariants as kinds
use Rattle.step_rules.specs.declared.progress.Progress.{Progress}
use Rattle.step_rules.specs.declared.progress.Progress.TheVariants.{Moved}
use Rattle.step_rules.specs.World.{World, IsHeld}
use Rattle.step_rules.specs.Sound.{IsSoundWorld}
use Rattle.step_rules.specs.Known.{Known, Deep, LeadsTo, AllKnown}
use Rattle.step_rules.specs.Does.{Does}
use Rattle.step_rules.specs.Turns.{Turn, TurnsAt}
use Rattle.step_rules.specs.Walks.{HasRead, IsAt, SearchWalk, HasHoppedLittle, IsOnItsWay, is_quiet, walk_beside}
use Rattle.step_rules.specs.Searching.{IsAimed, WalksTo}

-- what its seat knows first tells how far it has come: for a depth that was read, on its way to whichever bucket
abbrev pub IsWalkBy : ℕ → List Known → SearchWalk → World → Type 0
IsWalkBy seat (Deep depth ∷ []) walk w = (walk.stage ≡ HasRead depth) × ((k : ℕ) → IsOnItsWay seat k walk w)
IsWalkBy seat (LeadsTo page k ∷ facts) walk w = (walk.stage ≡ IsAt page) × IsOnItsWay seat k walk w
IsWalkBy seat facts walk w = ⊤

-- it has just read the depth
abbrev pub first_walk : ℕ → Change → SearchWalk
first_walk depth change = record { stage = HasRead depth; hops = 0; added = 0; calm = is_quiet change }

-- what others may have added to a walk stays as it was
pub record IsAsAdded (walk next : SearchWalk) : Type 0 where
  pub added : next.added ≡ walk.added
  pub calm : next.calm ≡ walk.calm

-- after a step of its seat a search begins, or hops on to another page, or goes on with the hops that it has
pub data WalksBehind {F : Type 0} (seat : ℕ) (did : Progress F) (facts : List Known) (walk : SearchWalk)
    (old new : World) : Type 0 where
  Begins : (depth : ℕ) → did ≡ Moved kinds.ReadDepth → held new.locks seat Directory ≡ Some Read →
      IsWalkBy seat facts (first_walk depth new.change) new → WalksBehind seat did facts walk old new
  HopsOn : did ≡ Moved kinds.Hop → (next : SearchWalk) → next.hops ≡ suc walk.hops → IsAsAdded walk next →
      HasHoppedLittle next → IsWalkBy seat facts next new → WalksBehind seat did facts walk old new
  -- a seat that is to change the structure holds the directory while it hops, and is on no search
  GoesOn : (did ≡ Moved kinds.Hop → (new.locks ≡ old.locks) ⊎ IsHeld new.locks seat Directory) →
      (did ≡ Moved kinds.ReadDepth → (any : SearchWalk) → IsWalkBy seat facts any new) → (next : SearchWalk) →
      next.hops ≡ walk.hops → IsAsAdded walk next → IsWalkBy seat facts next new →
      WalksBehind seat did facts walk old new

-- a step of a seat, from what it knows to what it then knows
pub record IsOwnStep {F : Type 0} (hash : RecordKey → ℕ) (seat : ℕ) (turn : Turn) (did : Progress F)
    (facts facts' : List Known) (old new : World) : Type 0 where
  pub sound : IsSoundWorld hash old
  pub sound_behind : IsSoundWorld hash new
  pub aimed : IsAimed turn.ask facts
  pub known : AllKnown seat old facts
  pub known_behind : AllKnown seat new facts'
  pub does : TurnsAt hash turn did seat old new
  pub led : WalksTo seat turn.ask did old new facts'

abbrev pub OwnStepsWalk : Type 0 → Type 0
OwnStepsWalk F = (hash : RecordKey → ℕ) (seat : ℕ) (turn : Turn) (did : Progress F) (facts facts' : List Known)
    (walk : SearchWalk) (old new : World) → IsOwnStep hash seat turn did facts facts' old new → HasHoppedLittle walk →
    IsWalkBy seat facts walk old → WalksBehind seat did facts' walk old new

-- a step of another seat
abbrev pub OthersStepsWalk : Type 0
OthersStepsWalk = (hash : RecordKey → ℕ) (seat other : ℕ) (kind : Kind) (facts : List Known) (walk : SearchWalk)
    (old new : World) → IsSoundWorld hash old → seat ≢ other → Does hash kind other old new →
    IsWalkBy seat facts walk old → IsWalkBy seat facts (walk_beside kind new.change walk) new
