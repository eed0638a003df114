-- A call that lacked room is not noted, and may have changed the pages: no call is noted behind it until a checkpoint.
use Rattle.std.specs.Prelude.{◌≡◌, ◌⊎◌, Bool, true, false, [], Option, Some, None, Result, Ok, Err, IsTrue}
use Rattle.safe_device.specs.Device.{DeviceState}
use Rattle.interleavings.specs.LoneKernelWords.{Answer}
use Rattle.session.specs.declared.unanswered.Unanswered.{Unanswered}
use Rattle.session.specs.declared.unanswered.Unanswered.TheVariants.{Waits, NoRoom, NoMemory, Failed}
use Rattle.desk.specs.declared.asking.Told.{Told}
use Rattle.durable_desk.specs.Durable.{DurableState}

-- a client is told that there is no room
abbrev pub lacks_room : Result Answer Unanswered → Bool
lacks_room (Ok answer) = false
lacks_room (Err Waits) = false
lacks_room (Err NoRoom) = true
lacks_room (Err NoMemory) = false
lacks_room (Err Failed) = false

-- the same of one that waited
abbrev pub tells_no_room : Option Told → Bool
tells_no_room None = false
tells_no_room (Some told) = lacks_room told.reply

-- no calls stand behind the pages of a device
abbrev pub HasNoCalls : {P : Type 0} → (honest : Bool) → DeviceState P → Type 0
HasNoCalls honest device = IsTrue honest → device.calls ≡ []

-- none were added: it is as it was, or has none
abbrev pub AddsNone : {P : Type 0} → (honest : Bool) → (old new : DeviceState P) → Type 0
AddsNone honest old new = (new ≡ old) ⊎ HasNoCalls honest new

-- all is as it was, and a call lacked room still
pub record StillLacks {P : Type 0} (old new : DurableState P) : Type 0 where
  pub device : new.device ≡ old.device
  pub lacked : new.lacked_room ≡ true

-- where a call lacked room since the last checkpoint, a commit adds no calls
abbrev pub AddsNoCalls : {P : Type 0} → (honest : Bool) → (old new : DurableState P) → Type 0
AddsNoCalls honest old new =
    old.lacked_room ≡ true → StillLacks old new ⊎ HasNoCalls honest new.device
