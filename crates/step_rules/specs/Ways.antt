-- How much longer another seat's way to its bucket grows by a step.
-- docs/STEPS.md, "Search".
use Rattle.std.specs.Prelude.{ℕ, suc, ◌≡◌, ◌≢◌, ◌≤◌, ◌+◌, ◌-◌, ◌%◌, ◌^◌, List, [], ◌∷◌, if◌then◌else◌}
use Rattle.directory.specs.Positions.{position_of}
use Rattle.directory.specs.Tiles.{begun}
use Rattle.bucket_page.specs.declared.record_key.RecordKey.{RecordKey}
use Rattle.page_locks.specs.declared.lock.LockName.TheVariants.{Directory}
use Rattle.hash_file.specs.Store.{Store, entry_at, range_at, next_at}
use Rattle.hash_file.specs.Chain.{chain}
use Rattle.hash_file.specs.Search.{PageLeads, distance}
use Rattle.hash_file.specs.Looks.{Answers}
use Rattle.step_rules.specs.declared.kind.Kind.{Kind}
use Rattle.step_rules.specs.Kinds.{may_lengthen}
use Rattle.step_rules.specs.World.{World, IsHeld, MayAim}
use Rattle.step_rules.specs.Sound.{IsSoundWorld}
use Rattle.step_rules.specs.Known.{Deep, LeadsTo, IsKnown}
use Rattle.step_rules.specs.Does.{Does}
use Rattle.step_rules.specs.Laws.{Move, LeadAlong, StandsStill}

-- the hops that a step of this kind may add to another seat's way
abbrev pub hops_added : Kind → ℕ
hops_added kind = if may_lengthen kind then 1 else 0

-- from a page on which another seat may stand
abbrev pub KindLengthens : Kind → Type 0
KindLengthens kind = (hash : RecordKey → ℕ) (seat i : ℕ) (old new : World) (page k : ℕ) → IsSoundWorld hash old →
    Does hash kind seat old new → i ≢ seat → MayAim old.locks i page → PageLeads old.store old.change page k →
    distance new.store page k ≤ distance old.store page k + hops_added kind

-- the hops that these moves may add
abbrev pub all_hops_added : List Move → ℕ
all_hops_added [] = 0
all_hops_added (move ∷ moves) = hops_added move.kind + all_hops_added moves

abbrev pub SchedulesLengthen : Type 0
SchedulesLengthen = (hash : RecordKey → ℕ) (moves : List Move) (old new : World) (i page k : ℕ) →
    IsSoundWorld hash old → LeadAlong hash moves old new → StandsStill i moves → IsKnown i old (LeadsTo page k) →
    distance new.store page k ≤ distance old.store page k + all_hops_added moves

-- the live buckets that begin behind the low bits of a pseudokey, up to its own: so far to the left may an entry lie
-- that was found by those bits
abbrev pub hops_between : Store → ℕ → ℕ → ℕ
hops_between s depth k =
    begun (range_at s) (chain s) (position_of k) - begun (range_at s) (chain s) (position_of (k % 2 ^ depth))

-- none, by the depth that was just read
abbrev pub DepthIsExact : Type 0
DepthIsExact = (hash : RecordKey → ℕ) (w : World) (k : ℕ) → IsSoundWorld hash w →
    hops_between w.store w.store.header.depth k ≡ 0

-- and few, by a depth that a seat has read which is still in the directory
abbrev pub KindParts : Kind → Type 0
KindParts kind = (hash : RecordKey → ℕ) (seat i : ℕ) (old new : World) (depth k : ℕ) → IsSoundWorld hash old →
    Does hash kind seat old new → i ≢ seat → IsHeld old.locks i Directory →
    hops_between new.store depth k ≤ hops_between old.store depth k + hops_added kind

-- an entry is one hop further
abbrev pub EntryIsNear : Type 0
EntryIsNear = (hash : RecordKey → ℕ) (seat : ℕ) (w : World) (depth k : ℕ) → IsSoundWorld hash w →
    IsKnown seat w (Deep depth) →
    distance w.store (entry_at w.store (k % 2 ^ depth)) k ≤ hops_between w.store depth k + 1

-- and each hop one nearer
abbrev pub HopIsNearer : Type 0
HopIsNearer = (hash : RecordKey → ℕ) (w : World) (page k : ℕ) → IsSoundWorld hash w →
    PageLeads w.store w.change page k → (Answers w.store page k → ⊥) →
    distance w.store page k ≡ suc (distance w.store (next_at w.store page) k)
