-- What the lines of a script come to, one after the other. docs/SCRIPTS.md, "Runs".
use Rattle.std.specs.Prelude.{◌≡◌, ◌⊎◌, ℕ, ◌≤◌, Bool, true, false, List, Option, None, Some}
use Rattle.numbers.specs.declared.faults.TheConstants.{DEVICE, FAILED, NO_MEMORY}
use Rattle.page_device.specs.Device.{HasRisen}
use Rattle.bucket_page.specs.Pseudokeys.{sha_key}
use Rattle.interleavings.specs.LoneKernelWords.{Call, Caller, State, outcome, restarted}
use Rattle.session.specs.Making.{SessionState}
use Rattle.session.specs.Session.{Holds}
use Rattle.msgq_cli.specs.Outputs.{OutputState, Prints}
use Rattle.msgq_cli.specs.Runs.{ending_of, printed}
use Rattle.msgq_cli.specs.Scripts.{Parts}
use Rattle.msgq_cli.specs.file_check.Whole.{IsFileOf}
use Rattle.msgq_cli.specs.declared.ending.Ending.{Ending}
use Rattle.msgq_cli.specs.declared.reply.Reply.{Reply}
use Rattle.msgq_cli.specs.declared.reply.Reply.TheVariants.{Failed}
use Rattle.session_runs.specs.Taking.{TakesLines}

-- ---- the rules

-- the system once it was stopped
abbrev pub stop : State → State
stop s = record s { stopped = true }

-- the system that a call is made in: s itself, or s after a stop where the call would wait in s
abbrev pub IsReady : Caller → Call → State → State → Type 0
IsReady c call s ready = (ready ≡ s) ⊎ ((outcome c call s ≡ None) × (ready ≡ stop s))

-- once the file has failed no call is made
abbrev pub IsTurned : Reply → Type 0
IsTurned reply = (reply ≡ Failed FAILED) ⊎ (reply ≡ Failed NO_MEMORY)

-- ---- the session

-- its file has failed, since the device had failed so often
pub record HasFailed (was : ℕ) (k : SessionState) : Type 0 where
  pub failed : k.failed ≡ true
  pub risen : HasRisen was k.pool.faults

-- it holds a system
pub record HoldsSystem (was : ℕ) (k : SessionState) (s : State) : Type 0 where
  pub holds : Holds s k
  pub later : was ≤ k.pool.faults

-- so it is, or the file has failed
abbrev pub Stands : ℕ → SessionState → Option State → Type 0
Stands was k (Some s) = HoldsSystem was k s
Stands was k None = HasFailed was k

-- a script was run: a session has taken its lines, and a line was printed for each, in order, with what it was replied;
-- whatever the device gives
pub record IsRun (script : Parts) (first last : SessionState) (old new : OutputState) (ending : Ending) : Type 0 where
  pub replies : List Reply
  pub takes : TakesLines script.ids 0 script.lines replies first last
  pub prints : Prints old new (printed script.lines replies)
  pub ends : ending ≡ ending_of replies

-- ---- how it ends

-- no fault is told, and the pages are a file of the system, unless the output refused a write; whether it is stopped
-- stands in no record
pub record IsKept (s : State) (left : List (List ℕ)) (untold : Bool) (fault : Option ℕ) : Type 0 where
  pub sound : fault ≡ None
  pub file : untold ≡ false → IsFileOf sha_key left (restarted s)

-- this fault is told, and a transfer failed since the device had failed so often
pub record FailsBy (number was faults : ℕ) (fault : Option ℕ) : Type 0 where
  pub told : fault ≡ Some number
  pub risen : HasRisen was faults

-- by the system that the lines left: a transfer failed at the closing, or while a line was run, and then there is none
abbrev pub EndsWell : Option State → List (List ℕ) → Bool → (was faults : ℕ) → Option ℕ → Type 0
EndsWell (Some s) left untold was faults fault = IsKept s left untold fault ⊎ FailsBy DEVICE was faults fault
EndsWell None left untold was faults fault = FailsBy FAILED was faults fault
