-- What an approach holds, knows and asks for at each place.
use Rattle.std.specs.Prelude.{ℕ, ◌≡◌, ◌↔◌, ◌≤◌, List, [], ◌∷◌, Option, Some, None, IsSome, ⊤}
use Rattle.step_rules.specs.Words.{Lock, Selective, Directory, Page, Quiet}
use Rattle.stale_search.specs.Words.{Progress, Ended, Known, Built, Ask, ForLock, Turn}
use Rattle.file_pages.specs.directory.declared.layout.TheConstants.{GREATEST_DEPTH}
use Rattle.file_pages.specs.hash_file.Changes.{RecordWrite}
use Rattle.step_rules.specs.Structure.{InPhase, HasDepth, BucketOf}
use Rattle.stale_search.specs.Rows.{EndsRow, in_directory, on_page}
use Rattle.stale_search.specs.Steps.{Stays}
use Rattle.stale_search.specs.declared.place.ApproachPlace.{ApproachPlace}
use Rattle.stale_search.specs.declared.place.ApproachPlace.TheVariants.{GrantDirectory, ReadDepth, ReadEntry, GrantPage, At}

pub record ApproachView : Type 0 where
  pub pseudokey : ℕ
  pub place : ApproachPlace

-- a depth that was read is one that a directory can have
abbrev pub IsShallow : ApproachPlace → Type 0
IsShallow (ReadEntry depth) = depth ≤ GREATEST_DEPTH
IsShallow (GrantPage depth n) = depth ≤ GREATEST_DEPTH
IsShallow (At depth n) = depth ≤ GREATEST_DEPTH
IsShallow place = ⊤

-- ---- locks

abbrev pub approach_locks_at : ApproachPlace → List Lock → List Lock
approach_locks_at GrantDirectory before = before
approach_locks_at ReadDepth before = in_directory Selective before
approach_locks_at (ReadEntry depth) before = in_directory Selective before
approach_locks_at (GrantPage depth n) before = in_directory Selective before
approach_locks_at (At depth n) before = on_page n Selective (in_directory Selective before)

-- its locks, behind those that the seat had before
abbrev pub approach_locks : ApproachView → List Lock → List Lock
approach_locks a before = approach_locks_at a.place before

abbrev pub HasApproachRow : ApproachView → List Lock → Type 0
HasApproachRow a row = EndsRow (approach_locks a) 2 row

-- ---- facts

-- no change is under way, the directory is so deep, and the page is the bucket
abbrev pub approach_facts_at : ApproachPlace → ℕ → List Known
approach_facts_at GrantDirectory k = []
approach_facts_at ReadDepth k = Built (InPhase Quiet) ∷ []
approach_facts_at (ReadEntry depth) k = Built (InPhase Quiet) ∷ Built (HasDepth depth) ∷ []
approach_facts_at (GrantPage depth n) k = Built (InPhase Quiet) ∷ Built (HasDepth depth) ∷ Built (BucketOf k n) ∷ []
approach_facts_at (At depth n) k = Built (InPhase Quiet) ∷ Built (HasDepth depth) ∷ Built (BucketOf k n) ∷ []

abbrev pub approach_facts : ApproachView → List Known
approach_facts a = approach_facts_at a.place a.pseudokey

-- ---- turns

abbrev pub approach_ask_at : ApproachPlace → Option Ask
approach_ask_at GrantDirectory = Some (ForLock Directory Selective)
approach_ask_at (GrantPage depth n) = Some (ForLock (Page n) Selective)
approach_ask_at place = None

-- in an operation that is to write this record, or none
abbrev pub approach_turn : ApproachView → Option RecordWrite → Turn
approach_turn a write = record { ask = approach_ask_at a.place; write = write }

-- ---- its end

-- the directory's depth and the bucket
abbrev pub reached_at : ApproachPlace → Option (ℕ × ℕ)
reached_at (At depth n) = Some (depth, n)
reached_at place = None

-- what it goes to stays, and it has ended where it has come there
pub record KeepsGoal {F : Type 0} (did : Progress F) (old new : ApproachView) : Type 0 where
  pub pseudokey : new.pseudokey ≡ old.pseudokey
  pub stays : Stays did old new
  pub ended : (did ≡ Ended) ↔ IsSome (reached_at old.place)

-- the steps that are left; those of other seats add none
abbrev pub approach_left_at : ApproachPlace → ℕ
approach_left_at GrantDirectory = 4
approach_left_at ReadDepth = 3
approach_left_at (ReadEntry depth) = 2
approach_left_at (GrantPage depth n) = 1
approach_left_at (At depth n) = 0

abbrev pub approach_left : ApproachView → ℕ
approach_left a = approach_left_at a.place
