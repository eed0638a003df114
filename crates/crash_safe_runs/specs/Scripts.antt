-- A script that is run over a file and its journal. docs/SCRIPTS.md, "Runs".
use Rattle.std.specs.Prelude.{◌≡◌, ◌⊎◌, ℕ, Bool, true, false, IsTrue, Option, None, Some}
use Rattle.bucket_page.specs.Pseudokeys.{sha_key}
use Rattle.deferred_sync.specs.Deferred.{LeavesSince}
use Rattle.deferred_sync.specs.safe_device.Device.{DeviceState}
use Rattle.deferred_sync.specs.safe_device.Left.{Left, alone}
use Rattle.deferred_sync.specs.safe_device.Safe.{StandsFor}
use Rattle.interleavings.specs.LoneKernelWords.{IsFileOf, State, restarted}
use Rattle.msgq_cli.specs.Outputs.{OutputState}
use Rattle.msgq_cli.specs.Scripts.{Parts}
use Rattle.msgq_cli.specs.declared.ending.Ending.{Ending}
use Rattle.session_runs.specs.PlainRuns.{IsPlainRun}
use Rattle.replays.specs.Texts.{Effects}
use Rattle.crash_safe_runs.specs.Concluding.{is_well}
use Rattle.deferred_sync.specs.Crash.{LeavesBeforeOrAfter, Pages}

-- what is done to the pages of a device, and printed
abbrev pub effects_on : {P : Type 0} → (device then : DeviceState P) → (old new : OutputState) → (untold : Bool) →
    Effects
effects_on device then old new untold = record {
  content = device.content;
  left = then.content;
  synced = then.is_synced;
  was = device.failed;
  faults = then.failed;
  old = old;
  new = new;
  untold = untold;
}

-- all was told, and the run has ended with no fault but those of lines
pub record IsDone (untold : Bool) (fault : Option ℕ) : Type 0 where
  pub told : untold ≡ false
  pub well : fault ≡ None

-- the file of the system that the lines left, unless it has failed or the output has refused what was to be told
abbrev pub IsToldFile : (untold : Bool) → Option State → Pages → Type 0
IsToldFile true after pages = ⊥
IsToldFile false None pages = ⊥
IsToldFile false (Some s) pages = IsFileOf sha_key pages (restarted s)

module _ {P : Type 0} (honest : Bool) (moment : P → ℕ) (left_since : P → ℕ → Left → Type 0)
    (may_leave : P → Left → Type 0) (began : ℕ) (left : ℕ → Left → Type 0) where
  -- nothing was run, and a crash at any moment leaves the pages of before
  pub record IsUnrun (c : Effects) (ending : Ending) (pair : P) : Type 0 where
    pub unwell : is_well ending ≡ false
    pub crash : IsTrue honest → LeavesSince moment left_since began left (StandsFor (alone c.content)) pair

  -- the lines were made one after the other
  pub record IsRunOver (script : Parts) (c : Effects) (ending : Ending) (pair : P) : Type 0 where
    pub run : IsPlainRun script honest c ending
    -- The pages of before are the file of one system; those of after are that of the system which the lines left by
    -- their replies, all of which were printed.
    pub crash : (sure : IsTrue honest) → LeavesBeforeOrAfter moment left_since may_leave began left c.content
        (IsToldFile c.untold (run.rules sure).after) (IsDone c.untold run.fault) pair

  abbrev pub RunsOver : Parts → Effects → Ending → P → Type 0
  RunsOver script c ending pair = IsRunOver script c ending pair ⊎ IsUnrun c ending pair
