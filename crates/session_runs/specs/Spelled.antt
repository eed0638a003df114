-- What a script comes to that is run on a file, down to the bytes of its pages: in the place of what a check tells of
-- them stands what they mean. docs/SCRIPTS.md, "Runs"; docs/FORMAT.md, "Pages", "Records".
use Rattle.std.specs.Prelude.{◌≡◌, ◌≢◌, ◌⊎◌, ℕ, false, Bool, List, Option, Some, None}
use Rattle.numbers.specs.declared.faults.TheConstants.{DEVICE, FAILED}
use Rattle.page_device.specs.Device.{HasRisen}
use Rattle.interleavings.specs.LoneKernelWords.{State, restarted}
use Rattle.interleavings.specs.files_at_rest.Spelled.{SpellsSystem}
use Rattle.interleavings.specs.interleaving_core.Fault.{device_failed, open_number_of}
use Rattle.interleavings.specs.interleaving_core.declared.fault.OpenFault.{OpenFault}
use Rattle.interleavings.specs.interleaving_core.declared.fault.OpenFault.TheVariants.{TooFewFrames}
use Rattle.msgq_cli.specs.Scripts.{Parts}
use Rattle.msgq_cli.specs.declared.ending.Ending.{Ending}
use Rattle.msgq_cli.specs.declared.reply.Reply.{Reply}
use Rattle.session_runs.specs.PlainRuns.{IsPlainRunBy, RepliesAlong}
use Rattle.replays.specs.Texts.{Effects, LeavesFault}

-- no fault is told, and the pages spell the system that the lines left, unless the output refused a write; or a
-- transfer failed, at the closing, or while a line was run
abbrev pub EndsSpelled : Option State → List (List ℕ) → Bool → (was faults : ℕ) → Option ℕ → Type 0
EndsSpelled (Some s) left untold was faults fault =
    ((fault ≡ None) × (untold ≡ false → SpellsSystem left (restarted s)))
    ⊎ ((fault ≡ Some DEVICE) × HasRisen was faults)
EndsSpelled None left untold was faults fault = (fault ≡ Some FAILED) × HasRisen was faults

-- from the one system that the pages spell the lines were replied so, and the run ended so
pub record RunsPages (script : Parts) (c : Effects) (replies : List Reply) (fault : Option ℕ) : Type 0 where
  pub system : State
  pub pages : SpellsSystem c.content system
  pub after : Option State
  pub replied : RepliesAlong script.ids script.lines (Some system) replies after
  pub ends : EndsSpelled after c.left c.untold c.was c.faults fault
  -- where the file has failed nothing was written
  pub before : after ≡ None → c.left ≡ c.content

-- it is not opened: one fault was printed, and the pages stay. What is wrong with those of an honest device
-- `IsUnopened` says
pub record IsLeftUnopened (c : Effects) (ending : Ending) : Type 0 where
  pub fault : OpenFault
  pub framed : fault ≢ TooFewFrames
  pub failed : fault ≡ device_failed → HasRisen c.was c.faults
  pub leaves : LeavesFault (open_number_of fault) c ending

abbrev pub RunsSpelled : Parts → (honest : Bool) → Effects → Ending → Type 0
RunsSpelled script honest c ending =
    IsPlainRunBy (RunsPages script c) script honest c ending ⊎ IsLeftUnopened c ending
