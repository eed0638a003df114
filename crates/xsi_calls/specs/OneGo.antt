-- What a call makes in one go: errands, one behind the other. docs/STEPS.md, "Calls".
use Rattle.std.specs.Prelude.{ℕ, ◌≡◌, ◌≤◌, ◌+◌, Bool, List, [], ◌∷◌, Option, Some, None}
use Rattle.file_pages.specs.declared.fault.FileFault.{FileFault}
use Rattle.step_rules.specs.declared.kind.Kind.TheVariants as kinds
use Rattle.xsi_calls.specs.QuestionRuns.{AsksAtOnce}
use Rattle.call_writes.specs.WriteRuns.{AskStep, At, Promise, WritesAtOnce}
use Rattle.xsi_calls.specs.QuestionWords.{Fault, Moved}

-- all steps of a question, or of a write; the Decide; or a name that is given back
pub data Errand : Type 0 where
  Asks : Errand
  Writes : Errand
  Decides : Errand
  GivesBack : Errand

abbrev pub moves_of : Errand → ℕ
moves_of Asks = 7
moves_of Writes = 8
moves_of Decides = 1
moves_of GivesBack = 1

abbrev pub all_moves : List Errand → ℕ
all_moves [] = 0
all_moves (errand ∷ before) = all_moves before + moves_of errand

-- those that are one step, by which no search begins or ends
abbrev pub single_of : Errand → ℕ
single_of Asks = 0
single_of Writes = 0
single_of Decides = 1
single_of GivesBack = 1

abbrev pub all_single : List Errand → ℕ
all_single [] = 0
all_single (errand ∷ before) = all_single before + single_of errand

-- behind a question pool and locks are what they were, and behind a write the locks
abbrev pub MakesErrand : {V : Type 0} → Promise V → (V → Bool) → ℕ → Errand → (old new : At V) → Type 0
MakesErrand Makes searches seat Asks old new =
    (new.pool ≡ old.pool) × ((new.locks ≡ old.locks)
    × AsksAtOnce Makes searches seat old.machine new.machine old.pool old.locks)
MakesErrand Makes searches seat Writes old new =
    (new.locks ≡ old.locks)
    × WritesAtOnce Makes searches seat old.machine new.machine old.pool new.pool old.locks
MakesErrand Makes searches seat Decides old new = AskStep Makes (Moved kinds.Decide) old new
MakesErrand Makes searches seat GivesBack old new = AskStep Makes (Moved kinds.Release) old new

-- one is made, from where this is so
pub record ErrandFrom {V : Type 0} (Stands : At V → Type 0) (Makes : Promise V) (searches : V → Bool) (seat : ℕ)
    (errand : Errand) (new : At V) : Type 0 where
  pub before : At V
  pub stands : Stands before
  pub makes : MakesErrand Makes searches seat errand before new

-- these are made, the last one first
abbrev pub RunsErrands : {V : Type 0} → Promise V → (V → Bool) → ℕ → List Errand → (old new : At V) → Type 0
RunsErrands Makes searches seat [] old new = new ≡ old
RunsErrands Makes searches seat (errand ∷ before) old new =
    ErrandFrom (λ s. RunsErrands Makes searches seat before old s) Makes searches seat errand new

-- so many moves; at most so many of the errands are one step
pub record RunsAtOnce {V : Type 0} (Makes : Promise V) (searches : V → Bool) (seat moves single : ℕ) (old new : At V)
    : Type 0 where
  pub errands : List Errand
  pub many : moves ≡ all_moves errands
  pub few : all_single errands ≤ single
  pub runs : RunsErrands Makes searches seat errands old new

-- and behind them a step that meets this fault, or none
abbrev pub EndsBy : {V : Type 0} → Promise V → Option FileFault → (old new : At V) → Type 0
EndsBy Makes None old new = new ≡ old
EndsBy Makes (Some fault) old new = AskStep Makes (Fault fault) old new

pub record GoesAtOnce {V : Type 0} (Makes : Promise V) (searches : V → Bool) (seat moves single : ℕ)
    (fault : Option FileFault) (old new : At V) : Type 0 where
  pub before : At V
  pub runs : RunsAtOnce Makes searches seat moves single old before
  pub ends : EndsBy Makes fault before new
