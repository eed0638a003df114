-- What a script comes to that is run on a file, by one seat or by several, down to the bytes of its pages.
-- docs/SCRIPTS.md, "Runs"; docs/FORMAT.md, "Pages", "Records".
use Rattle.std.specs.Prelude.{◌⊎◌, true, false, Bool}
use Rattle.msgq_cli.specs.Scripts.{Parts}
use Rattle.msgq_cli.specs.declared.ending.Ending.{Ending}
use Rattle.replays.specs.Texts.{Effects}
use Rattle.service_runs.specs.Beside.{RunsBesideBy, is_of_one_seat}
use Rattle.service_runs.specs.Spelled.{HadToAdd, IsSpelledJournal, LeavesSpelled}
use Rattle.crash_safe_runs.specs.session_runs.PlainRuns.{IsPlainRunBy}
use Rattle.crash_safe_runs.specs.session_runs.Spelled.{IsLeftUnopened, RunsPages}

-- a script of one seat is run line by line
abbrev pub RunsAsOneSpelled : (one : Bool) → Parts → (honest : Bool) → Effects → Ending → Type 0
RunsAsOneSpelled true script honest c ending = IsPlainRunBy (RunsPages script c) script honest c ending
RunsAsOneSpelled false script honest c ending =
    RunsBesideBy (IsSpelledJournal script c.content) (LeavesSpelled script c.content) (HadToAdd script c.content)
    script honest c ending

abbrev pub RunsScriptSpelled : Parts → (honest : Bool) → Effects → Ending → Type 0
RunsScriptSpelled script honest c ending =
    RunsAsOneSpelled (is_of_one_seat script.lines) script honest c ending ⊎ IsLeftUnopened c ending
