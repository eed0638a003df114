-- Why a call of a service is not answered. docs/FAULTS.md.
use Rattle.std.specs.Prelude.{◌≡◌, true, IsTrue, List, Option, Some, None, length, ⊤}
use Rattle.interleaving_core.specs.declared.fault.StepFault.TheVariants as faults
use Rattle.interleaving_core.specs.declared.step.Step.TheVariants as steps
use Rattle.interleavings.specs.Moments.{HasToInsert}
use Rattle.workers.specs.Origins.{Origin}
use Rattle.workers.specs.Told.{SeesFull, Sitter}
use Rattle.workers.specs.Words.{Call, Entry, IsFileOf, IsLegal, State, Step}
use Rattle.workers.specs.declared.fault.Fault.{Fault}
use Rattle.workers.specs.declared.fault.Fault.TheVariants.{Failed, NoMemory, NoRoom, SessionFull}
use Rattle.workers.specs.declared.unanswered.Unanswered.{Unanswered}
use Rattle.workers.specs.declared.unanswered.Unanswered.TheVariants as unanswered

-- a call had something to insert: after a journal that is legal from the system whose file the device had, it is
-- answered something new, if its caller may make it
pub record HadToInsert (o : Origin) (call : Call) : Type 0 where
  pub base : State
  pub file : IsFileOf o.hash o.content base
  pub journal : List Entry
  pub legal : IsLegal o.callers journal base
  pub inserts : HasToInsert o.callers base call journal

abbrev pub IsHadBy : Origin → Option Call → Type 0
IsHadBy o None = ⊤
IsHadBy o (Some call) = HadToInsert o call

-- of an honest device a step tells that a record has no room only of such a call
abbrev pub TellsNoRoom : Origin → Step → Option Call → Type 0
TellsNoRoom o (steps.Fault faults.NoRoom) call = IsTrue o.honest → IsHadBy o call
TellsNoRoom o did call = ⊤

-- what is so of a seat whose call is told this; of want of memory nothing
abbrev pub HasCause : Origin → Call → Sitter → Fault → Type 0
HasCause o call x NoRoom = IsTrue o.honest → HadToInsert o call
HasCause o call x NoMemory = ⊤
HasCause o call x SessionFull = SeesFull (length o.callers) x
HasCause o call x Failed = x.failed ≡ true

-- or whose time is over
abbrev pub HasCauseOrTime : Origin → Call → Sitter → Unanswered → Type 0
HasCauseOrTime o call x (unanswered.TimedOut back) = back ≡ call
HasCauseOrTime o call x (unanswered.Fault fault) = HasCause o call x fault
