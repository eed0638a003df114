-- What is printed where a script is run on a file, and what that leaves. docs/SCRIPTS.md, "Runs".
use Rattle.std.specs.Prelude.{◌≡◌, ◌⊎◌, ℕ, true, Bool, List, Option, Some, Result, Ok, Err}
use Rattle.numbers.specs.declared.faults.TheConstants.{DEVICE, NO_MEMORY}
use Rattle.interleavings.specs.files_at_rest.Files.{no_queues}
use Rattle.interleavings.specs.LoneKernelWords.{State}
use Rattle.session.specs.Making.{SessionState}
use Rattle.session.specs.Session.{OpensAny}
use Rattle.msgq_cli.specs.Outputs.{OutputState}
use Rattle.msgq_cli.specs.Refusals.{AreKnownAs, IsFaultAlone}
use Rattle.msgq_cli.specs.Scripts.{Parts, caller_of, greatest_seat, script_of}
use Rattle.msgq_cli.specs.record_file.Files.{IsNewFile}
use Rattle.msgq_cli.specs.declared.ending.Ending.{Ending}
use Rattle.msgq_cli.specs.declared.ending.Ending.TheVariants.{WrongLine}
use Rattle.replays.specs.Texts.{Effects, IsUnopened, LeavesAll, LeavesFault}
use Rattle.session_runs.specs.Taking.{TakesLines}
use Rattle.session_runs.specs.Runs.{IsRun}
use Rattle.session_runs.specs.PlainRuns.{IsPlainRun, RepliesAlong}
use Rattle.session_runs.specs.declared.serving.TheConstants.{MEMORY_PAGES}

-- ---- on the file of a device

-- a session was opened over the pages and took the lines; what was printed was handed on, and only then the session was
-- closed, or was let go
pub record IsRunOn (script : Parts) (honest : Bool) (c : Effects) (ending : Ending) : Type 0 where
  -- what that comes to
  pub run : IsPlainRun script honest c ending
  pub first : SessionState
  pub opened : OpensAny (caller_of (greatest_seat script.lines) script.ids) c.content honest c.was first
  pub last : SessionState
  pub takes : TakesLines script.ids 0 script.lines run.replies first last
  -- where a line failed nothing was written
  pub before : last.failed ≡ true → c.left ≡ c.content

-- or it is not opened
abbrev pub RunsOn : Parts → (honest : Bool) → Effects → Ending → Type 0
RunsOn script honest c ending = IsRunOn script honest c ending ⊎ IsUnopened honest c ending

-- a wrong script is told by its first wrong line, and nothing is run
abbrev pub RunsScriptOn : Result Parts ℕ → (honest : Bool) → Effects → Ending → Type 0
RunsScriptOn (Ok script) honest c ending = RunsOn script honest c ending
RunsScriptOn (Err line) honest c ending = (ending ≡ WrongLine line) × LeavesAll c

-- a text is run as the script that it spells, unless there is no memory to read it
abbrev pub RunsTextOn : List ℕ → (honest : Bool) → Effects → Ending → Type 0
RunsTextOn text honest c ending = RunsScriptOn (script_of text) honest c ending ⊎ LeavesFault NO_MEMORY c ending

-- ---- on a new file in memory

-- a session was opened over the new file, and the lines were replied by the rules from the empty system
pub record IsRunNew (script : Parts) (old new : OutputState) (ending : Ending) : Type 0 where
  pub content : List (List ℕ)
  pub file : IsNewFile MEMORY_PAGES content
  pub first : SessionState
  pub opened : OpensAny (caller_of (greatest_seat script.lines) script.ids) content true 0 first
  pub last : SessionState
  pub run : IsRun script first last old new ending
  pub after : State
  pub replied : RepliesAlong script.ids script.lines (Some no_queues) run.replies (Some after)

-- unless there is no memory to make it
abbrev pub RunsNew : Parts → OutputState → OutputState → Ending → Type 0
RunsNew script old new ending = IsRunNew script old new ending ⊎ IsFaultAlone NO_MEMORY old new ending

-- a wrong script runs nothing
abbrev pub RunsScript : Result Parts ℕ → OutputState → OutputState → Ending → Type 0
RunsScript (Ok script) old new ending = RunsNew script old new ending
RunsScript (Err line) old new ending = (ending ≡ WrongLine line) × (new ≡ old)

-- a text is run as the script that it spells, unless there is no memory to read it
abbrev pub RunsText : List ℕ → OutputState → OutputState → Ending → Type 0
RunsText text old new ending = RunsScript (script_of text) old new ending ⊎ IsFaultAlone NO_MEMORY old new ending

-- the text that a reader gives is run, unless there is no memory to read it or the reader fails otherwise
abbrev pub RunsInput : Option (List ℕ) → OutputState → OutputState → Ending → Type 0
RunsInput known old new ending =
    ((text : List ℕ) × AreKnownAs known text × RunsText text old new ending)
    ⊎ IsFaultAlone NO_MEMORY old new ending
    ⊎ IsFaultAlone DEVICE old new ending
