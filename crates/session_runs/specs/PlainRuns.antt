-- What a script comes to that is run on a file, in words of the rules of queues, of what is printed and of pages alone:
-- no kernel is spoken of. docs/SCRIPTS.md, "Runs".
use Rattle.std.specs.Prelude.{◌≡◌, ◌⊎◌, ℕ, true, false, IsTrue, List, [], ◌∷◌, Bool, Option, Some, None, length}
use Rattle.numbers.specs.declared.faults.TheConstants.{FAILED, NO_MEMORY, NO_ROOM, SESSION_FULL}
use Rattle.bucket_page.specs.Pseudokeys.{sha_key}
use Rattle.interleavings.specs.LoneKernelWords.{Call, Caller, State, outcome}
use Rattle.msgq_cli.specs.Outputs.{OutputState, Prints}
use Rattle.msgq_cli.specs.Runs.{ending_of, printed}
use Rattle.msgq_cli.specs.Scripts.{Parts, caller_of}
use Rattle.msgq_cli.specs.file_check.Whole.{IsFileOf}
use Rattle.msgq_cli.specs.declared.command.Command.{Command}
use Rattle.msgq_cli.specs.declared.command.Command.TheVariants as command
use Rattle.msgq_cli.specs.declared.ending.Ending.{Ending}
use Rattle.msgq_cli.specs.declared.line.Line.{Line}
use Rattle.msgq_cli.specs.declared.line.SeatIds.{SeatIds}
use Rattle.msgq_cli.specs.declared.reply.Reply.{Reply}
use Rattle.msgq_cli.specs.declared.reply.Reply.TheVariants.{Answered, Stopped, Failed}
use Rattle.replays.specs.Replays.{EndsWith}
use Rattle.replays.specs.Texts.{Effects, IsUnopened}
use Rattle.session_runs.specs.Runs.{EndsWell, IsReady, IsTurned, stop}

-- ---- what lines are replied

-- a fault by which the system is left as it is: no room, no memory, or a full session
abbrev pub IsLeaving : ℕ → Type 0
IsLeaving fault = (fault ≡ NO_ROOM) ⊎ (fault ≡ NO_MEMORY) ⊎ (fault ≡ SESSION_FULL)

-- what a call is replied in the system that it is made in, and the system that it leaves; or it is replied 62 where
-- the file has failed, and there is none
abbrev pub Replies : Caller → Call → State → Reply → Option State → Type 0
Replies c call s (Answered answer) (Some t) = outcome c call s ≡ Some (answer, t)
Replies c call s (Answered answer) None = ⊥
Replies c call s Stopped t = ⊥
Replies c call s (Failed fault) (Some t) = IsLeaving fault × (t ≡ s)
Replies c call s (Failed fault) None = fault ≡ FAILED

-- where the call would wait the system is stopped before
abbrev pub RepliesReady : Caller → Call → State → Reply → Option State → Type 0
RepliesReady c call s reply t = (ready : State) × IsReady c call s ready × Replies c call ready reply t

-- what a command is replied where the system is s, or the file has failed, and the system that it leaves
abbrev pub RepliesTo : Caller → Command → Option State → Reply → Option State → Type 0
RepliesTo c (command.Call call) (Some s) reply t = RepliesReady c call s reply t
RepliesTo c (command.Call call) None reply t = IsTurned reply × (t ≡ None)
RepliesTo c command.Stop (Some s) reply t = (reply ≡ Stopped) × (t ≡ Some (stop s))
RepliesTo c command.Stop None reply t = (reply ≡ Stopped) × (t ≡ None)

-- what the lines are replied, one after the other, and the system that they leave
abbrev pub RepliesAlong : List SeatIds → List Line → Option State → List Reply → Option State → Type 0
RepliesAlong ids [] s [] t = t ≡ s
RepliesAlong ids (line ∷ lines) s (reply ∷ replies) t =
    (next : Option State)
    × RepliesTo (caller_of line.seat ids) line.command s reply next
    × RepliesAlong ids lines next replies t
RepliesAlong ids lines s replies t = ⊥

-- ---- the file

-- from the one system of the file the lines were replied so, and the run ended so
pub record RunsFile (script : Parts) (c : Effects) (replies : List Reply) (fault : Option ℕ) : Type 0 where
  pub system : State
  pub file : IsFileOf sha_key c.content system
  pub after : Option State
  pub replied : RepliesAlong script.ids script.lines (Some system) replies after
  pub ends : EndsWell after c.left c.untold c.was c.faults fault
  -- where the file has failed nothing was written
  pub before : after ≡ None → c.left ≡ c.content

-- a line was printed for each line of the script, and handed on; only then the file was written, and a fault was
-- printed, or none. On an honest device this is so of the replies and of that fault
pub record IsPlainRunBy (Rules : List Reply → Option ℕ → Type 0) (script : Parts) (honest : Bool) (c : Effects)
    (ending : Ending) : Type 0 where
  pub replies : List Reply
  pub told : OutputState
  pub prints : Prints c.old told (printed script.lines replies)
  -- the output refused a write, or all has come to the writer
  pub untold : c.untold ≡ told.refused
  pub handed : c.untold ≡ false → told.handed ≡ told.known
  pub fault : Option ℕ
  pub ends : EndsWith fault told (ending_of replies) c.new ending
  -- what was told has happened, on an honest device, which is synced behind the last write
  pub rules : IsTrue honest → Rules replies fault
  pub synced : c.untold ≡ false → fault ≡ None → IsTrue honest → IsTrue c.synced
  -- and there are as many pages
  pub pages : c.untold ≡ false → fault ≡ None → IsTrue honest → length c.left ≡ length c.content
  -- what can't be told has not
  pub before : c.untold ≡ true → c.left ≡ c.content

-- by the rules, on the file of a system
abbrev pub IsPlainRun : Parts → (honest : Bool) → Effects → Ending → Type 0
IsPlainRun script honest c ending = IsPlainRunBy (RunsFile script c) script honest c ending

-- or it is not opened
abbrev pub RunsPlainly : Parts → (honest : Bool) → Effects → Ending → Type 0
RunsPlainly script honest c ending = IsPlainRun script honest c ending ⊎ IsUnopened honest c ending
