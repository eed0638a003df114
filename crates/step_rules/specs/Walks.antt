-- A search among the steps of the others: how far it has come, the hops that it made, and those that the others may
-- have added. docs/STEPS.md, "Search".
use Rattle.std.specs.Prelude.{ℕ, suc, ◌≡◌, ◌≢◌, ◌≤◌, ◌+◌, ◌%◌, ◌^◌, Bool, true, false, ◌&&◌, Some}
use Rattle.bucket_page.specs.declared.record_key.RecordKey.{RecordKey}
use Rattle.page_locks.specs.declared.lock.LockKind.{LockKind}
use Rattle.page_locks.specs.declared.lock.LockName.TheVariants.{Directory, Page}
use Rattle.page_locks.specs.Table.{Table, row_of, held}
use Rattle.hash_file.specs.Store.{entry_at, next_at}
use Rattle.hash_file.specs.Change.{Change, Quiet}
use Rattle.hash_file.specs.Search.{distance}
use Rattle.hash_file.specs.Looks.{Answers}
use Rattle.step_rules.specs.declared.kind.Kind.{Kind}
use Rattle.step_rules.specs.World.{World, with_locks, IsHeld}
use Rattle.step_rules.specs.Sound.{IsSoundWorld}
use Rattle.step_rules.specs.Known.{Deep, LeadsTo, HasAnchor, IsKnown}
use Rattle.step_rules.specs.LockSteps.{Grants, MovesOn}
use Rattle.step_rules.specs.Does.{Does}
use Rattle.step_rules.specs.Ways.{hops_added, hops_between}

-- how far a search has come since it was granted the directory
pub data WalkStage : Type 0 where
  Entered : WalkStage
  HasRead : (depth : ℕ) → WalkStage
  IsAt : (page : ℕ) → WalkStage

pub record SearchWalk : Type 0 where
  pub stage : WalkStage
  -- the hops that it made since that grant
  pub hops : ℕ
  -- those that steps of other seats may have added since
  pub added : ℕ
  -- whether no change was under way in all that time
  pub calm : Bool

abbrev pub is_quiet : Change → Bool
is_quiet Quiet = true
is_quiet change = false

-- an entry that is read beside a change may be late by a hop
abbrev pub late : Bool → ℕ
late true = 0
late false = 1

-- what its seat knows there, and how few hops are left
abbrev pub IsNearAt : ℕ → ℕ → World → SearchWalk → WalkStage → Type 0
IsNearAt seat k w walk Entered = IsHeld w.locks seat Directory × (walk.hops ≡ 0)
IsNearAt seat k w walk (HasRead depth) =
    IsKnown seat w (Deep depth) × (walk.hops + hops_between w.store depth k ≤ walk.added)
IsNearAt seat k w walk (IsAt page) =
    IsKnown seat w (LeadsTo page k) × (walk.hops + distance w.store page k ≤ walk.added + late walk.calm)

-- the walk of a seat to the bucket of pseudokey k
pub record IsOnItsWay (seat k : ℕ) (walk : SearchWalk) (w : World) : Type 0 where
  pub near : IsNearAt seat k w walk walk.stage
  -- where no change was under way, none is now, and nothing was added
  pub calm : walk.calm ≡ true → (w.change ≡ Quiet) × (walk.added ≡ 0)

abbrev pub begun_walk : Change → SearchWalk
begun_walk change = record { stage = Entered; hops = 0; added = 0; calm = is_quiet change }

-- the walk after another seat's step of a kind, which left this phase
abbrev pub walk_beside : Kind → Change → SearchWalk → SearchWalk
walk_beside kind change walk = record walk { added = walk.added + hops_added kind; calm = walk.calm && is_quiet change }

-- one law a step of the search itself, and one for the steps of the others
pub record WalksGoOn (hash : RecordKey → ℕ) (seat k : ℕ) : Type 0 where
  pub begins : (old new : World) (g : Grants seat old new) → g.name ≡ Directory →
      IsOnItsWay seat k (begun_walk new.change) new
  pub reads_depth : (w : World) (walk : SearchWalk) → IsSoundWorld hash w → walk.stage ≡ Entered
      → IsOnItsWay seat k walk w →
      IsOnItsWay seat k (record walk { stage = HasRead w.store.header.depth }) w
  pub reads_entry : (w : World) (walk : SearchWalk) (depth : ℕ) → IsSoundWorld hash w → walk.stage ≡ HasRead depth →
      IsOnItsWay seat k walk w →
      IsOnItsWay seat k (record walk { stage = IsAt (entry_at w.store (k % 2 ^ depth)) }) w
  -- it locks its page, or gives the directory back
  pub locks : (w : World) (walk : SearchWalk) (page : ℕ) (t : Table) → walk.stage ≡ IsAt page →
      HasAnchor (row_of t seat) (LeadsTo page k) → IsOnItsWay seat k walk w → IsOnItsWay seat k walk (with_locks t w)
  pub hops : (old new : World) (walk : SearchWalk) (page : ℕ) (kind : LockKind) → IsSoundWorld hash old →
      walk.stage ≡ IsAt page → held old.locks seat (Page page) ≡ Some kind → (Answers old.store page k → ⊥) →
      MovesOn page kind seat old new → IsOnItsWay seat k walk old →
      IsOnItsWay seat k (record walk { stage = IsAt (next_at old.store page); hops = suc walk.hops }) new
  pub others : (old new : World) (walk : SearchWalk) (other : ℕ) (kind : Kind) → IsSoundWorld hash old → seat ≢ other →
      Does hash kind other old new → IsOnItsWay seat k walk old →
      IsOnItsWay seat k (walk_beside kind new.change walk) new

abbrev pub SearchesGoOn : Type 0
SearchesGoOn = (hash : RecordKey → ℕ) (seat k : ℕ) → WalksGoOn hash seat k

-- one hop more than the others may have added, and none where no change was under way
pub record HasHoppedLittle (walk : SearchWalk) : Type 0 where
  pub few : walk.hops ≤ suc walk.added
  pub calm : walk.calm ≡ true → walk.hops ≡ 0

abbrev pub SearchHopsLittle : Type 0
SearchHopsLittle = (seat k : ℕ) (walk : SearchWalk) (w : World) → IsOnItsWay seat k walk w → HasHoppedLittle walk
