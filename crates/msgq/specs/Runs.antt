-- A script of several seats that is run over a file and its journal. docs/SCRIPTS.md, "Runs".
use Rattle.std.specs.Prelude.{◌≡◌, ◌⊎◌, ℕ, Bool, true, false, IsTrue, List}
use Rattle.crash_safe_runs.specs.deferred_sync.Crash.{LeavesBeforeOrAfter, Pages}
use Rattle.crash_safe_runs.specs.Scripts.{IsDone, IsUnrun, RunsOver}
use Rattle.crash_safe_runs.specs.deferred_sync.safe_device.Left.{Left}
use Rattle.msgq_cli.specs.Scripts.{Parts}
use Rattle.msgq_cli.specs.declared.ending.Ending.{Ending}
use Rattle.queue_model.specs.declared.entry.Entry.{Entry}
use Rattle.replays.specs.Texts.{Effects}
use Rattle.service_runs.specs.Beside.{RunsBeside, is_of_one_seat, origin_on}
use Rattle.workers.specs.Origins.{LeavesFile, Origin}

-- the file of the system after the journal, where all answers were told
pub record IsFileAfterAll (o : Origin) (untold : Bool) (journal : List Entry) (pages : Pages) : Type 0 where
  pub told : untold ≡ false
  pub file : LeavesFile o journal pages

module _ {P : Type 0} (honest : Bool) (moment : P → ℕ) (left_since : P → ℕ → Left → Type 0)
    (may_leave : P → Left → Type 0) (began : ℕ) (left : ℕ → Left → Type 0) where
  -- the lines of several seats were made beside one another
  pub record IsRunBesideOver (script : Parts) (c : Effects) (ending : Ending) (pair : P) : Type 0 where
    pub run : RunsBeside script (origin_on script honest c) c ending
    -- The pages of before are the file of one system; those of after are that of the system after the journal, of which
    -- all answers were printed.
    pub crash : IsTrue honest → LeavesBeforeOrAfter moment left_since may_leave began left c.content
        (IsFileAfterAll (origin_on script honest c) c.untold run.journal) (IsDone c.untold run.fault) pair

  -- a script of one seat is run line by line
  abbrev pub RunsSeatsOver : (one : Bool) → Parts → Effects → Ending → P → Type 0
  RunsSeatsOver true script c ending pair =
      RunsOver honest moment left_since may_leave began left script c ending pair
  RunsSeatsOver false script c ending pair =
      IsRunBesideOver script c ending pair ⊎ IsUnrun honest moment left_since may_leave began left c ending pair

  abbrev pub RunsScriptOver : Parts → Effects → Ending → P → Type 0
  RunsScriptOver script c ending pair = RunsSeatsOver (is_of_one_seat script.lines) script c ending pair
