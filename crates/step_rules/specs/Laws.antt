-- The laws of steps, each on the contract of a function of src/laws.rt.
use Rattle.std.specs.Prelude.{ℕ, ◌≡◌, ◌≢◌, List, [], ◌∷◌}
use Rattle.bucket_page.specs.declared.record_key.RecordKey.{RecordKey}
use Rattle.page_locks.specs.Table.{Table, IsLawful}
use Rattle.page_locks.specs.Ties.{IsUnheld}
use Rattle.hash_file.specs.Store.{Store}
use Rattle.hash_file.specs.Change.{Quiet}
use Rattle.hash_file.specs.Changes.{RecordWrite}
use Rattle.hash_file.specs.Sound.{IsSoundFile}
use Rattle.hash_file.specs.Kept.{KeepsContents, ChangesRecord}
use Rattle.step_rules.specs.declared.kind.Kind.{Kind}
use Rattle.step_rules.specs.declared.kind.Kind.TheVariants.{WriteRecord}
use Rattle.step_rules.specs.World.{World}
use Rattle.step_rules.specs.Sound.{IsSoundWorld}
use Rattle.step_rules.specs.Known.{Known, IsKnown}
use Rattle.step_rules.specs.Leaves.{Leaves}
use Rattle.step_rules.specs.Does.{Does, KeepsOthers}
use Rattle.step_rules.specs.Turns.{Turn, DoesTied, WritesJust}

-- what seat i knows, through what a step of seat j leaves
abbrev pub OthersKnow : Type 0
OthersKnow = (hash : RecordKey → ℕ) (i j : ℕ) (old new : World) (fact : Known) → i ≢ j → IsSoundWorld hash old →
    Leaves j old new → IsKnown i old fact → IsKnown i new fact

-- a step of this kind keeps the world sound, and leaves the others what they know
abbrev pub KindKeeps : Kind → Type 0
KindKeeps kind = (hash : RecordKey → ℕ) (seat : ℕ) (old new : World) → IsSoundWorld hash old →
    Does hash kind seat old new → KeepsOthers hash seat old new

-- a step that is tied to its turn is one of its kind, so it does no less
abbrev pub TurnKeeps : Kind → Type 0
TurnKeeps kind = (hash : RecordKey → ℕ) (turn : Turn) (seat : ℕ) (old new : World) → IsSoundWorld hash old →
    DoesTied hash turn kind seat old new → KeepsOthers hash seat old new

abbrev pub TurnIsOfItsKind : Kind → Type 0
TurnIsOfItsKind kind = (hash : RecordKey → ℕ) (turn : Turn) (seat : ℕ) (old new : World) →
    DoesTied hash turn kind seat old new → Does hash kind seat old new

-- only a WriteRecord changes what the file holds
abbrev pub KindKeepsContents : Kind → Type 0
KindKeepsContents kind = (hash : RecordKey → ℕ) (seat : ℕ) (old new : World) → IsSoundWorld hash old →
    kind ≢ WriteRecord → Does hash kind seat old new → KeepsContents old.store new.store

-- and exactly the record of its turn
abbrev pub WriteChangesOneRecord : Type 0
WriteChangesOneRecord = (hash : RecordKey → ℕ) (seat : ℕ) (write : RecordWrite) (old new : World) →
    IsSoundWorld hash old → WritesJust hash write seat old new → ChangesRecord write old.store new.store

-- a turn of a seat, at which it made a step of a kind
pub record Move : Type 0 where
  pub seat : ℕ
  pub turn : Turn
  pub kind : Kind

-- the moves lead from one world to another, each from where the one before it led
abbrev pub LeadAlong : (RecordKey → ℕ) → List Move → World → World → Type 0
LeadAlong hash [] old new = new ≡ old
LeadAlong hash (move ∷ moves) old new =
    (next : World) × DoesTied hash move.turn move.kind move.seat old next × LeadAlong hash moves next new

-- none of the moves is of this seat
abbrev pub StandsStill : ℕ → List Move → Type 0
StandsStill i [] = Unit {0}
StandsStill i (move ∷ moves) = (i ≢ move.seat) × StandsStill i moves

-- in every schedule the world stays sound
abbrev pub SchedulesKeepSound : Type 0
SchedulesKeepSound = (hash : RecordKey → ℕ) (moves : List Move) (old new : World) → IsSoundWorld hash old →
    LeadAlong hash moves old new → IsSoundWorld hash new

-- and a seat that stands still knows what it knew
abbrev pub SchedulesKeepKnowledge : Type 0
SchedulesKeepKnowledge = (hash : RecordKey → ℕ) (moves : List Move) (old new : World) (i : ℕ) (fact : Known) →
    IsSoundWorld hash old → LeadAlong hash moves old new → StandsStill i moves → IsKnown i old fact → IsKnown i new fact

-- a sound file with no change under way is where schedules may begin
abbrev pub RestIsSound : Type 0
RestIsSound = (hash : RecordKey → ℕ) (s : Store) (t : Table) → IsSoundFile hash s Quiet → IsLawful t → IsUnheld t →
    IsSoundWorld hash (record { store = s; locks = t; change = Quiet })

-- and such a file is left where they end, no seat holding a lock
abbrev pub RestIsQuiet : Type 0
RestIsQuiet = (hash : RecordKey → ℕ) (w : World) → IsSoundWorld hash w → IsUnheld w.locks
    → IsSoundFile hash w.store Quiet
