-- An access that is under way: each step takes it on, and it is let go only where it has ended. docs/STEPS.md, "Insert,
-- Replace, Delete".
use Rattle.std.specs.Prelude.{ℕ, ◌≡◌, ◌⊎◌, Option, Some, None, ⊤}
use Rattle.file_pages.specs.declared.fault.FileFault.{FileFault}
use Rattle.record_file.specs.AccessSteps.{MakesAccess}
use Rattle.record_file.specs.OperationSteps.{TurnsAwayOf}
use Rattle.xsi_remove.specs.Words.{RecordKey, PoolState, Table, Change, Progress, HasEnded, AccessView, world}

-- of an access that was under way, where this one is behind the step, or none
pub record StepsAccess (hash : RecordKey → ℕ) (seat : ℕ) (did : Progress FileFault) (old : AccessView)
    (now : Option AccessView) (pool pool' : PoolState) (locks locks' : Table) (change : Change) : Type 0 where
  -- it has come so far by a step of its own
  pub come : AccessView
  pub makes : MakesAccess hash seat did old come pool pool' locks locks'
  -- by which a delete turns away from its merge only where none can be made
  pub turns_away : TurnsAwayOf hash seat old.operation come.operation (world pool'.images locks' change)
  -- it goes on, or has given all its locks back
  pub stays : (now ≡ Some come) ⊎ HasEnded come.operation

abbrev pub StepsUnderWay : (RecordKey → ℕ) → ℕ → Progress FileFault → (old now : Option AccessView) →
    (pool pool' : PoolState) → (locks locks' : Table) → Change → Type 0
StepsUnderWay hash seat did None now pool pool' locks locks' change = ⊤
StepsUnderWay hash seat did (Some a) now pool pool' locks locks' change =
    StepsAccess hash seat did a now pool pool' locks locks' change
