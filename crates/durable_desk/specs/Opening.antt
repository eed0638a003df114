-- A file is opened: its pages are read, and the calls behind them are made again. docs/FORMAT.md, "Calls".
use Rattle.std.specs.Prelude.{ℕ, ◌≡◌, ◌<◌, ◌≤◌, ◌⊎◌, ◌++◌, Bool, false, List, [], Option, IsTrue, length, take, ⊤}
use Rattle.page_device.specs.declared.fault.DeviceFault.{DeviceFault}
use Rattle.page_device.specs.declared.fault.DeviceFault.TheVariants as devices
use Rattle.page_device.specs.declared.page.TheConstants.{MAX_PAGES}
use Rattle.safe_device.specs.Device.{DeviceState, IsOpened, held}
use Rattle.safe_device.specs.Left.{Left, Saved}
use Rattle.safe_device.specs.Safe.{IsAtRest}
use Rattle.safe_device.specs.declared.journal.Journal.{Journal}
use Rattle.file_walk.specs.declared.fault.StructureFault.TheVariants as structure
use Rattle.interleaving_core.specs.Fault.{device_failed}
use Rattle.interleaving_core.specs.file_check.declared.fault.CheckFault.TheVariants.{Structure}
use Rattle.interleaving_core.specs.declared.fault.OpenFault.{OpenFault}
use Rattle.interleaving_core.specs.declared.fault.OpenFault.TheVariants as opens
use Rattle.interleavings.specs.LoneKernelWords.{State}
use Rattle.session.specs.Session.{MayNotOpen, saved_of}
use Rattle.call_entries.specs.Entries.{IsMade, LeadsBy, spelled}
use Rattle.call_entries.specs.Log.{empty}
use Rattle.call_entries.specs.declared.entry.CallEntry.{CallEntry}
use Rattle.desk.specs.Desk.{DeskState, Serves}
use Rattle.durable_desk.specs.Durable.{DurableState, IsCommitted, IsReady}
use Rattle.durable_desk.specs.Saved.{ComesTo, LeadOn}
use Rattle.durable_desk.specs.declared.opening.OpenRefusal.{OpenRefusal}
use Rattle.durable_desk.specs.declared.opening.OpenRefusal.TheVariants.{File, Calls}

-- ---- calls are made again

-- a desk comes from one state to another by calls of nobody's that were all answered
pub record KeepsWaiting (old new : DeskState) : Type 0 where
  pub saved : saved_of new.session ≡ saved_of old.session
  pub most : new.most ≡ old.most

-- the call of an entry was made, and answered as it says
pub record HasMade (e : CallEntry) (s : State) (old new : DeskState) : Type 0 where
  pub after : State
  pub made : IsMade e s after
  pub serves : Serves after new
  pub waiting : new.waiting ≡ old.waiting

pub record Makes (e : CallEntry) (old new : DeskState) : Type 0 where
  pub made : (s : State) → Serves s old → HasMade e s old new
  pub keeps : KeepsWaiting old new

-- so were those of the bytes before the rest
pub record HasMadeAll (calls rest : List ℕ) (s : State) (old new : DeskState) : Type 0 where
  pub after : State
  pub entries : List CallEntry
  pub is : calls ≡ spelled entries ++ rest
  pub leads : LeadsBy entries s after
  pub serves : Serves after new
  pub waiting : new.waiting ≡ old.waiting

pub record MakesAll (calls rest : List ℕ) (old new : DeskState) : Type 0 where
  pub made : (s : State) → Serves s old → HasMadeAll calls rest s old new
  pub keeps : KeepsWaiting old new

-- and those of additions
pub record HasLedOn (calls : List (List ℕ)) (s : State) (old new : DeskState) : Type 0 where
  pub after : State
  pub leads : LeadOn calls s after
  pub serves : Serves after new
  pub waiting : new.waiting ≡ old.waiting

-- of the first so many additions that a device has
pub record MakesAgain (honest : Bool) (calls : List (List ℕ)) (many : ℕ) (old new : DeskState) : Type 0 where
  pub read : List (List ℕ)
  pub same : IsTrue honest → read ≡ take many calls
  pub made : (s : State) → Serves s old → HasLedOn read s old new
  pub keeps : KeepsWaiting old new

-- ---- a file is opened

-- a device was read, and not changed
abbrev pub IsRead : {P : Type 0} → (old new : DeviceState P) → Type 0
IsRead old new = new ≡ record old { failed = new.failed }

-- what was read comes to a system that the desk serves, and nobody waits; an honest device gave what it holds
pub record IsRemade {P : Type 0} (honest : Bool) (given : DeviceState P) (most : ℕ) (desk : DeskState) : Type 0 where
  pub read : Saved
  pub system : State
  pub comes : ComesTo read system
  pub serves : Serves system desk
  pub nobody : desk.waiting ≡ []
  pub saved : saved_of desk.session ≡ read.pages
  pub many : length read.pages ≡ length given.content
  pub same : IsTrue honest → read ≡ held given

pub record OpensFile {P : Type 0} (honest : Bool) (may_leave : P → Left → Type 0) (given : DeviceState P) (most : ℕ)
    (d : DurableState P) : Type 0 where
  pub remade : IsRemade honest given most d.desk
  pub same : IsRead given d.device
  pub committed : IsCommitted honest may_leave d.desk d.device
  pub none : d.log ≡ empty
  pub sound : d.has_failed ≡ false

-- a device over what was recovered is ready for that
abbrev pub MakesReady : (P : Type 0) → Bool → (P → List (List ℕ)) → (P → Option Journal) → (P → Left → Type 0) → Type 0
MakesReady P honest file journal may_leave = (given : P) (device : DeviceState P) →
    IsAtRest file journal may_leave given → IsOpened honest file journal given device → IsTrue honest →
    IsReady may_leave device

-- what is told of pages or calls that can't be read into memory
abbrev pub unread : DeviceFault → OpenFault
unread devices.Device = device_failed
unread devices.BadDigest = opens.NoMemory
unread devices.PastEnd = opens.NoMemory
unread devices.DeviceFull = opens.NoMemory
unread devices.NoMemory = opens.NoMemory

-- a file has fewer pages
pub record HasTooManyPages (content : List (List ℕ)) (fault : OpenFault) : Type 0 where
  pub told : fault ≡ opens.Wrong (Structure structure.BadHeader)
  pub more : MAX_PAGES < length content

-- why calls are not made again: a transfer failed, there is no memory, or they are not of this file
abbrev pub MayNotBeMade : OpenRefusal → Type 0
MayNotBeMade (File fault) = (fault ≡ device_failed) ⊎ (fault ≡ opens.NoMemory)
MayNotBeMade Calls = ⊤

-- why a file is not opened: a transfer failed, there is no memory, or the first thing that is wrong with it; or there
-- are calls behind its pages that are not to be made of them
abbrev pub MayNotOpenFile : {P : Type 0} → (honest : Bool) → DeviceState P → OpenRefusal → Type 0
MayNotOpenFile honest given (File fault) =
    (fault ≡ device_failed) ⊎ (fault ≡ opens.NoMemory) ⊎ HasTooManyPages given.content fault
    ⊎ (IsTrue honest → MayNotOpen given.content fault)
MayNotOpenFile honest given Calls = IsTrue honest → 1 ≤ length given.calls
