-- The steps of a checkpoint: the pages that have changed are written, the device is synced, and it is noted.
use Rattle.std.specs.Prelude.{ℕ, ◌≡◌, ◌≤◌, Bool, false, List, Option, Result, Ok, Err, IsTrue, length}
use Rattle.safe_device.specs.Crash.{LeavesOnly}
use Rattle.safe_device.specs.Device.{DeviceState, held}
use Rattle.safe_device.specs.Left.{Left}
use Rattle.safe_device.specs.Safe.{StandsFor, committed}
use Rattle.safe_device.specs.declared.journal.Journal.{Journal}
use Rattle.interleavings.specs.LoneKernelWords.{State}
use Rattle.session.specs.Session.{AreItsPages, pages_of}
use Rattle.call_entries.specs.Log.{LogState}
use Rattle.desk.specs.Desk.{DeskState, KeepsServing, Serves}
use Rattle.durable_desk.specs.Durable.{FailsToCommit, HasCommitted}
use Rattle.durable_desk.specs.declared.commit.Uncommitted.{Uncommitted}

-- the device has all pages as they are to be written, and is not synced; where none has changed nothing was done
pub record HasWritten {P : Type 0} (honest : Bool) (file : P → List (List ℕ)) (journal : P → Option Journal)
    (some : Bool) (desk after : DeskState) (device then : DeviceState P) : Type 0 where
  pub keeps : KeepsServing desk after
  pub its : IsTrue honest → (s : State) → Serves s desk → AreItsPages then.content after.session
  pub many : length then.content ≡ pages_of after.session
  pub usable : IsTrue honest → then.is_broken ≡ false
  pub later : device.failed ≤ then.failed
  pub stays : IsTrue honest → committed file journal then.pair ≡ held device
  pub none : some ≡ false → (after ≡ desk) × (then ≡ device)

abbrev pub Writes : {P : Type 0} → Bool → (P → List (List ℕ)) → (P → Option Journal) → Result Bool Uncommitted →
    (desk after : DeskState) → (device then : DeviceState P) → Type 0
Writes honest file journal (Ok some) desk after device then =
    HasWritten honest file journal some desk after device then
Writes honest file journal (Err fault) desk after device then = FailsToCommit fault desk after device then

-- a crash at any moment meanwhile leaves what was committed last
abbrev pub LeavesTheLast : {P : Type 0} → Bool → (P → ℕ) → (P → ℕ → Left → Type 0) → (device then : DeviceState P) →
    Type 0
LeavesTheLast honest moment left_since device then =
    IsTrue honest → LeavesOnly moment left_since device.pair then.pair (StandsFor (held device))

abbrev pub Brings : {P : Type 0} → Bool → (P → Left → Type 0) → Result Unit Uncommitted → (desk after : DeskState) →
    (log rest : LogState) → (device then : DeviceState P) → Type 0
Brings honest may_leave (Ok done) desk after log rest device then =
    HasCommitted honest may_leave desk after log rest device then
Brings honest may_leave (Err fault) desk after log rest device then = FailsToCommit fault desk after device then
