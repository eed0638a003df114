-- How a call of a session is made, whatever the device gives. docs/STEPS.md, "Calls".
use Rattle.std.specs.Prelude.{◌≡◌, ◌⊎◌, Bool, true, false, Option, Some, None, Result, Ok, Err}
use Rattle.bucket_page.specs.Pseudokeys.{sha_key}
use Rattle.bucket_page.specs.declared.pseudokey.ShaKey.{ShaKey}
use Rattle.interleaving_core.specs.Renewing.{IsRenewed, IsReseated, KeepsCaller, Withdraws}
use Rattle.interleaving_core.specs.declared.fault.BeginFault.TheVariants as begins
use Rattle.interleaving_core.specs.declared.fault.StepFault.TheVariants as faults
use Rattle.interleaving_core.specs.declared.step.Step.TheVariants as steps
use Rattle.interleavings.specs.LoneKernelWords.{Answer, BeginFault, Call, Caller, HasCall, IsDriven, IsRefused, KernelState, Step, caller_at}
use Rattle.session.specs.declared.session.TheConstants.{SEAT}
use Rattle.session.specs.declared.unanswered.Unanswered.{Unanswered}
use Rattle.session.specs.declared.unanswered.Unanswered.TheVariants.{Waits, NoRoom, NoMemory, Failed}

abbrev pub SessionState : Type 0
SessionState = KernelState ShaKey

-- whose calls they are
abbrev pub caller_of : SessionState → Option Caller
caller_of k = caller_at k.callers SEAT

-- ---- before it

-- nothing is done, or its journal is let go
abbrev pub MayBeShortened : (old new : SessionState) → Type 0
MayBeShortened old new = (new ≡ old) ⊎ IsRenewed old.journal old new

-- or somebody sits down for it
abbrev pub IsReadied : (old new : SessionState) → Type 0
IsReadied old new = MayBeShortened old new ⊎ ((caller : Caller) × IsReseated SEAT caller old new)

-- a caller sits down, or can't
abbrev pub Seats : Caller → Bool → (old new : SessionState) → Type 0
Seats caller true old new = IsReadied old new × (caller_of new ≡ Some caller)
-- since a call is under way, or the session has failed
Seats caller false old new = KeepsCaller SEAT old new

-- ---- what it comes to

-- why a call is not answered that does not begin
abbrev pub unanswered_by : BeginFault → Unanswered
unanswered_by begins.Failed = Failed
unanswered_by begins.Busy = Failed
unanswered_by begins.SessionFull = NoMemory
unanswered_by begins.NoMemory = NoMemory

abbrev pub is_waiting : Step → Bool
is_waiting (steps.Moved kind) = false
is_waiting (steps.Blocked other) = false
is_waiting steps.Waiting = true
is_waiting (steps.Answered answer) = false
is_waiting steps.Idle = false
is_waiting (steps.Fault fault) = false

-- what a call comes to of which its seat was told this; one that is not over has failed
abbrev pub came_of : Step → Result Answer Unanswered
came_of (steps.Moved kind) = Err Failed
came_of (steps.Blocked other) = Err Failed
came_of steps.Waiting = Err Waits
came_of (steps.Answered answer) = Ok answer
came_of steps.Idle = Err Failed
came_of (steps.Fault faults.NoRoom) = Err NoRoom
came_of (steps.Fault (faults.File fault)) = Err Failed

-- ---- it is made

-- it does not begin
pub record IsTurnedAway (call : Call) (result : Result Answer Unanswered) (old new : SessionState) : Type 0 where
  pub refusal : Call × BeginFault
  pub refused : IsRefused SEAT call refusal old new
  pub told : result ≡ Err (unanswered_by refusal.1)

-- one of which its seat was told that it waits is taken back
abbrev pub IsTakenBack : Option Call → Result Answer Unanswered → Type 0
IsTakenBack None result = result ≡ Err Failed
IsTakenBack (Some call) result = result ≡ Err Waits

-- any other comes to what its seat was told
abbrev pub EndsDriven : (waits : Bool) → Step → Result Answer Unanswered → (old new : SessionState) → Type 0
EndsDriven true did result old new = (back : Option Call) × Withdraws SEAT back old new × IsTakenBack back result
EndsDriven false did result old new = (result ≡ came_of did) × (new ≡ old)

-- it begins, and its seat is driven until it was told this
pub record IsDrivenTo (call : Call) (result : Result Answer Unanswered) (old new : SessionState) : Type 0 where
  pub begun : SessionState
  pub begins : HasCall SEAT call old begun
  pub did : Step
  pub last : SessionState
  pub driven : IsDriven sha_key SEAT did begun last
  pub ends : EndsDriven (is_waiting did) did result last new

abbrev pub Goes : Call → Result Answer Unanswered → (old new : SessionState) → Type 0
Goes call result old new = IsTurnedAway call result old new ⊎ IsDrivenTo call result old new

-- it is made for this caller
pub record IsMade (by : Option Caller) (call : Call) (result : Result Answer Unanswered) (old new : SessionState)
    : Type 0 where
  pub first : SessionState
  pub readied : IsReadied old first
  pub sits : caller_of first ≡ by
  pub goes : Goes call result first new

-- or it can't be
pub record IsUnmade (result : Result Answer Unanswered) (old new : SessionState) : Type 0 where
  pub unseated : KeepsCaller SEAT old new
  pub told : result ≡ Err Failed

abbrev pub Makes : Option Caller → Call → Result Answer Unanswered → (old new : SessionState) → Type 0
Makes by call result old new = IsMade by call result old new ⊎ IsUnmade result old new
