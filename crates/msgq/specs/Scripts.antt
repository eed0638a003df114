-- A script that is run on the file of a device, and on a new file in memory: by one seat or by several.
-- docs/SCRIPTS.md, "Runs".
use Rattle.std.specs.Prelude.{ℕ, ◌≡◌, ◌⊎◌, Bool, true, false, List, Option, Result, Ok, Err}
use Rattle.numbers.specs.declared.faults.TheConstants.{DEVICE, NO_MEMORY}
use Rattle.msgq_cli.specs.Outputs.{OutputState}
use Rattle.msgq_cli.specs.Refusals.{AreKnownAs, IsFaultAlone}
use Rattle.msgq_cli.specs.Scripts.{Parts, script_of}
use Rattle.msgq_cli.specs.declared.ending.Ending.{Ending}
use Rattle.msgq_cli.specs.declared.ending.Ending.TheVariants.{WrongLine}
use Rattle.msgq_cli.specs.record_file.Files.{IsNewFile}
use Rattle.replays.specs.Texts.{Effects}
use Rattle.service_runs.specs.Beside.{RunsBesideOn, is_of_one_seat}
use Rattle.crash_safe_runs.specs.session_runs.Serves.{RunsNew, RunsOn}
use Rattle.crash_safe_runs.specs.session_runs.declared.serving.TheConstants.{MEMORY_PAGES}

-- a script of one seat is run line by line
abbrev pub RunsAsOne : (one : Bool) → Parts → (honest : Bool) → Effects → Ending → Type 0
RunsAsOne true script honest c ending = RunsOn script honest c ending
RunsAsOne false script honest c ending = RunsBesideOn script honest c ending

abbrev pub RunsScriptOn : Parts → (honest : Bool) → Effects → Ending → Type 0
RunsScriptOn script honest c ending = RunsAsOne (is_of_one_seat script.lines) script honest c ending

-- ---- on a new file in memory

-- from the pages of a new file
pub record RunsNewBeside (script : Parts) (old new : OutputState) (ending : Ending) : Type 0 where
  pub effects : Effects
  pub file : IsNewFile MEMORY_PAGES effects.content
  pub was : effects.old ≡ old
  pub is : effects.new ≡ new
  pub runs : RunsBesideOn script true effects ending

-- a script of one seat is run line by line; there may be no memory to make the file
abbrev pub RunsNewAsOne : (one : Bool) → Parts → OutputState → OutputState → Ending → Type 0
RunsNewAsOne true script old new ending = RunsNew script old new ending
RunsNewAsOne false script old new ending = RunsNewBeside script old new ending ⊎ IsFaultAlone NO_MEMORY old new ending

abbrev pub RunsScriptNew : Parts → OutputState → OutputState → Ending → Type 0
RunsScriptNew script old new ending = RunsNewAsOne (is_of_one_seat script.lines) script old new ending

-- a wrong script runs nothing
abbrev pub RunsRead : Result Parts ℕ → OutputState → OutputState → Ending → Type 0
RunsRead (Ok script) old new ending = RunsScriptNew script old new ending
RunsRead (Err line) old new ending = (ending ≡ WrongLine line) × (new ≡ old)

-- a text is run as the script that it spells, unless there is no memory to read it
abbrev pub RunsTextNew : List ℕ → OutputState → OutputState → Ending → Type 0
RunsTextNew text old new ending = RunsRead (script_of text) old new ending ⊎ IsFaultAlone NO_MEMORY old new ending

-- the text that a reader gives is run, unless there is no memory to read it or the reader fails otherwise
abbrev pub RunsInputNew : Option (List ℕ) → OutputState → OutputState → Ending → Type 0
RunsInputNew known old new ending =
    ((text : List ℕ) × AreKnownAs known text × RunsTextNew text old new ending)
    ⊎ IsFaultAlone NO_MEMORY old new ending
    ⊎ IsFaultAlone DEVICE old new ending
