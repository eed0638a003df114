-- A script that is replayed by a schedule over a file and its journal. docs/SCRIPTS.md, "Schedules".
use Rattle.std.specs.Prelude.{◌≡◌, ◌⊎◌, ℕ, Bool, false, IsTrue, List, Ok}
use Rattle.bucket_page.specs.Pseudokeys.{sha_key}
use Rattle.deferred_sync.specs.safe_device.Left.{Left}
use Rattle.interleavings.specs.LoneKernelWords.{IsFileOf, State, restarted}
use Rattle.interleavings.specs.Words.{after}
use Rattle.msgq_cli.specs.Scripts.{Parts, script_of}
use Rattle.msgq_cli.specs.declared.ending.Ending.{Ending}
use Rattle.queue_model.specs.declared.caller.Caller.{Caller}
use Rattle.queue_model.specs.declared.entry.Entry.{Entry}
use Rattle.replays.specs.Texts.{Effects, IsPlayed}
use Rattle.schedules.specs.Schedules.{schedule_of}
use Rattle.schedules.specs.declared.event.Event.{Event}
use Rattle.deferred_sync.specs.Crash.{LeavesBeforeOrAfter, Pages}
use Rattle.crash_safe_runs.specs.Scripts.{IsDone, IsUnrun}

-- the file of the system after the journal, where all answers were told
pub record IsFileAfterJournal (untold : Bool) (callers : List Caller) (journal : List Entry) (base : State)
    (pages : Pages) : Type 0 where
  pub told : untold ≡ false
  pub file : IsFileOf sha_key pages (restarted (after callers journal base))

module _ {P : Type 0} (honest : Bool) (moment : P → ℕ) (left_since : P → ℕ → Left → Type 0)
    (may_leave : P → Left → Type 0) (began : ℕ) (left : ℕ → Left → Type 0) where
  -- the lines that a text spells were replayed by the schedule that another spells
  pub record IsReplayedOver (text words : List ℕ) (c : Effects) (ending : Ending) (pair : P) : Type 0 where
    pub script : Parts
    pub reads : script_of text ≡ Ok script
    pub events : List Event
    pub spells : schedule_of words ≡ Ok events
    pub run : IsPlayed script events honest c ending
    -- The pages of before are the file of one system, from which the lines were replayed; those of after are that of
    -- the system after the journal, of which all answers were printed.
    pub crash : (sure : IsTrue honest) → LeavesBeforeOrAfter moment left_since may_leave began left c.content
        (IsFileAfterJournal c.untold run.replayed.last.kernel.callers run.replayed.last.kernel.journal
        (run.opened.led sure).base) (IsDone c.untold run.replayed.fault) pair

  abbrev pub ReplaysOver : (text words : List ℕ) → Effects → Ending → P → Type 0
  ReplaysOver text words c ending pair =
      IsReplayedOver text words c ending pair
      ⊎ IsUnrun honest moment left_since may_leave began left c ending pair
