-- What comes of a script and a schedule that are given as texts, on the pages of a device. docs/SCRIPTS.md, "Runs" and
-- "Schedules".
use Rattle.std.specs.Prelude.{ℕ, ◌≡◌, ◌≢◌, ◌⊎◌, Bool, false, IsTrue, List, Result, Ok, Err}
use Rattle.numbers.specs.declared.faults.TheConstants.{NO_MEMORY}
use Rattle.bucket_page.specs.Pseudokeys.{sha_key}
use Rattle.page_device.specs.Device.{HasRisen}
use Rattle.interleavings.specs.interleaving_core.Beginning.{MayRefuseUnchecked}
use Rattle.interleavings.specs.interleaving_core.Fault.{device_failed, open_number_of}
use Rattle.interleavings.specs.interleaving_core.declared.fault.OpenFault.{OpenFault}
use Rattle.interleavings.specs.interleaving_core.declared.fault.OpenFault.TheVariants.{TooFewFrames}
use Rattle.msgq_cli.specs.Outputs.{OutputState}
use Rattle.msgq_cli.specs.Refusals.{IsFaultAlone}
use Rattle.msgq_cli.specs.Scripts.{Parts, script_of}
use Rattle.msgq_cli.specs.declared.ending.Ending.{Ending}
use Rattle.msgq_cli.specs.declared.ending.Ending.TheVariants.{WrongLine, WrongWord}
use Rattle.schedules.specs.Schedules.{schedule_of}
use Rattle.schedules.specs.declared.event.Event.{Event}
use Rattle.replays.specs.Events.{ReplayState}
use Rattle.replays.specs.Replays.{IsOpenedFor, IsReplayed, may_write}
use Rattle.replays.specs.Rounds.{is_over}

-- ---- what is left

-- the pages of a device, how often its transfers have failed, and what was printed, before and after; whether it is
-- synced after; and whether the output refused what was to be told
pub record Effects : Type 0 where
  pub content : List (List ℕ)
  pub left : List (List ℕ)
  pub synced : Bool
  pub was : ℕ
  pub faults : ℕ
  pub old : OutputState
  pub new : OutputState
  pub untold : Bool

-- nothing was printed, and the pages stay
pub record LeavesAll (c : Effects) : Type 0 where
  pub pages : c.left ≡ c.content
  pub printed : c.new ≡ c.old
  pub told : c.untold ≡ false

-- one fault was printed, and the pages stay
pub record LeavesFault (fault : ℕ) (c : Effects) (ending : Ending) : Type 0 where
  pub pages : c.left ≡ c.content
  pub alone : IsFaultAlone fault c.old c.new ending
  pub told : c.untold ≡ false

-- ---- what was read is played

-- the pages were opened for the script, which was replayed by the schedule
pub record IsPlayed (script : Parts) (events : List Event) (honest : Bool) (c : Effects) (ending : Ending)
    : Type 0 where
  pub first : ReplayState
  pub opened : IsOpenedFor script c.content honest first
  pub replayed : IsReplayed events first c.old c.new c.left c.synced c.untold ending
  -- where nothing was to be written, the file has what it had
  pub before : may_write (is_over replayed.last) c.untold replayed.last.kernel ≡ false → c.left ≡ c.content

-- they are not opened: of an honest device that is the first thing that is wrong with the file, unless the machine
-- lacked something or a transfer failed; and the number of that is printed
pub record IsUnopened (honest : Bool) (c : Effects) (ending : Ending) : Type 0 where
  pub fault : OpenFault
  pub framed : fault ≢ TooFewFrames
  pub cause : IsTrue honest → MayRefuseUnchecked sha_key c.content fault
  pub failed : fault ≡ device_failed → HasRisen c.was c.faults
  pub leaves : LeavesFault (open_number_of fault) c ending

-- ---- what texts spell

-- by what a schedule spells: its words, or the number of the first wrong one
abbrev pub PlaysSchedule : Result (List Event) ℕ → Parts → Bool → Effects → Ending → Type 0
PlaysSchedule (Ok events) script honest c ending = IsPlayed script events honest c ending ⊎ IsUnopened honest c ending
PlaysSchedule (Err word) script honest c ending = (ending ≡ WrongWord word) × LeavesAll c

-- by what a script spells: its lines, or the number of the first wrong one
abbrev pub PlaysScript : Result Parts ℕ → List ℕ → Bool → Effects → Ending → Type 0
PlaysScript (Ok script) schedule honest c ending = PlaysSchedule (schedule_of schedule) script honest c ending
PlaysScript (Err line) schedule honest c ending = (ending ≡ WrongLine line) × LeavesAll c

-- unless there is no memory to read them
abbrev pub PlaysTexts : (script schedule : List ℕ) → (honest : Bool) → Effects → Ending → Type 0
PlaysTexts script schedule honest c ending =
    PlaysScript (script_of script) schedule honest c ending ⊎ LeavesFault NO_MEMORY c ending
