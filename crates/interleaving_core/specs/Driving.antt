-- How a seat is driven: it is stepped until its call does not move. docs/STEPS.md, "Calls".
use Rattle.std.specs.Prelude.{ℕ, zero, suc, ◌≡◌, ◌⊎◌, ◌<◌, true, false, Option, None, Some}
use Rattle.file_pages.specs.declared.fault.FileFault.{FileFault}
use Rattle.step_rules.specs.declared.kind.Kind.{Kind}
use Rattle.interleaving_core.specs.Words.{RecordKey}
use Rattle.interleaving_core.specs.Active.{ActiveView}
use Rattle.interleaving_core.specs.Kernel.{KernelState, call_at}
use Rattle.interleaving_core.specs.Owing.{IsMove, IsTurn, failed, failure_by, fault_told}
use Rattle.interleaving_core.specs.Turn.{TakesTurn}
use Rattle.interleaving_core.specs.declared.fault.Failure.{Failure}
use Rattle.interleaving_core.specs.declared.kernel.TheConstants.{MOST_STEPS}
use Rattle.interleaving_core.specs.declared.step.Step.{Step}
use Rattle.interleaving_core.specs.declared.step.Step.TheVariants as steps

-- a step of a seat, at the pseudokeys that this function gives
pub record IsStep {K : Type 0} (hash : RecordKey → ℕ) (seat : ℕ) (did : Step) (old new : KernelState K) : Type 0 where
  pub turn : IsTurn seat did old new
  -- it is one of the machine of its call, or none while that waits
  pub makes : (a : ActiveView) → call_at old.seats seat ≡ Some a → old.failed ≡ false →
      TakesTurn hash seat old.stopped did a (call_at new.seats seat) old.pool new.pool old.locks new.locks
      old.journal new.journal

-- a step that moves, from a kernel of which this is so
pub record MovesFrom {K : Type 0} (Stands : KernelState K → Type 0) (hash : RecordKey → ℕ) (seat : ℕ)
    (new : KernelState K) : Type 0 where
  pub before : KernelState K
  pub stands : Stands before
  pub kind : Kind
  pub step : IsStep hash seat (steps.Moved kind) before new

-- so many steps of a seat, each of which moves
abbrev pub Moves : {K : Type 0} → (RecordKey → ℕ) → ℕ → (moves : ℕ) → (old new : KernelState K) → Type 0
Moves hash seat zero old new = new ≡ old
Moves hash seat (suc n) old new = MovesFrom (λ before. Moves hash seat n old before) hash seat new

-- behind them a step by which the file has failed, or none
abbrev pub EndsBy : {K : Type 0} → (RecordKey → ℕ) → ℕ → Option FileFault → (old new : KernelState K) → Type 0
EndsBy hash seat None old new = new ≡ old
EndsBy hash seat (Some fault) old new = IsStep hash seat (fault_told fault) old new

-- what is made of them in one go
pub record GoesThrough {K : Type 0} (hash : RecordKey → ℕ) (seat moves : ℕ) (fault : Option FileFault)
    (old new : KernelState K) : Type 0 where
  pub before : KernelState K
  pub moved : Moves hash seat moves old before
  pub ends : EndsBy hash seat fault before new

-- nothing was made
abbrev pub HasGoneNowhere : ℕ → Option FileFault → Type 0
HasGoneNowhere moves fault = (moves ≡ 0) × (fault ≡ None)

-- what is known of the first step that failed, where one of a seat has by this fault
abbrev pub failure_at : ℕ → Option FileFault → Option Failure
failure_at seat None = None
failure_at seat (Some fault) = Some (record { seat = seat; fault = fault })

-- the last step, which does not move
pub record ComesToRest {K : Type 0} (hash : RecordKey → ℕ) (seat moves : ℕ) (did : Step) (before new : KernelState K)
    : Type 0 where
  pub few : moves < MOST_STEPS
  pub step : IsStep hash seat did before new
  pub rests : IsMove did → ⊥

-- each of the most steps was a move, and that counts as a failure
pub record IsSpent {K : Type 0} (seat moves : ℕ) (did : Step) (before new : KernelState K) : Type 0 where
  pub most : moves ≡ MOST_STEPS
  pub told : did ≡ failed
  pub marked : new ≡ record before { failed = true; failure = failure_by seat failed None }

-- what a seat was told of a drive, which leaves new
pub record IsDriven {K : Type 0} (hash : RecordKey → ℕ) (seat : ℕ) (did : Step) (old new : KernelState K)
    : Type 0 where
  pub moves : ℕ
  pub before : KernelState K
  pub moved : Moves hash seat moves old before
  pub ends : ComesToRest hash seat moves did before new ⊎ IsSpent seat moves did before new
