-- A desk that is brought to a file which a crash leaves as at a commit: what is so between two commits, and what its
-- functions promise beside a desk's. docs/QUEUES.md, "Calls"; docs/FORMAT.md, "Pages" and "Calls".
use Rattle.std.specs.Prelude.{ℕ, ◌≡◌, ◌⊎◌, ◌||◌, Bool, true, false, Result, Ok, Err, IsTrue, length}
use Rattle.page_device.specs.Device.{HasRisen}
use Rattle.safe_device.specs.Crash.{Keeps, LeavesOnly}
use Rattle.safe_device.specs.Device.{DeviceState, held}
use Rattle.safe_device.specs.Left.{Left, Saved, recovered}
use Rattle.safe_device.specs.Safe.{StandsFor}
use Rattle.interleavings.specs.LoneKernelWords.{State, restarted}
use Rattle.session.specs.Session.{saved_of}
use Rattle.call_entries.specs.Log.{LogState, empty}
use Rattle.desk.specs.Desk.{DeskState, KeepsServing, Serves}
use Rattle.durable_desk.specs.Saved.{ComesTo, ComesWith}
use Rattle.durable_desk.specs.declared.commit.Uncommitted.{Uncommitted}
use Rattle.durable_desk.specs.declared.commit.Uncommitted.TheVariants.{Device, Desk, Earlier}

pub record DurableState (P : Type 0) : Type 0 where
  pub desk : DeskState
  pub device : DeviceState P
  -- the calls that were decided since the last commit
  pub log : LogState
  -- a call lacked room since the last checkpoint
  pub lacked_room : Bool
  -- a commit has failed, or the desk has
  pub has_failed : Bool

-- ---- what is so between two commits

-- a crash leaves only what the device holds
pub record IsReady {P : Type 0} (may_leave : P → Left → Type 0) (device : DeviceState P) : Type 0 where
  pub usable : device.is_broken ≡ false
  pub kept : Keeps (StandsFor (held device)) (may_leave device.pair)

-- the file of a desk, as it was last committed
pub record IsCommitted {P : Type 0} (honest : Bool) (may_leave : P → Left → Type 0) (desk : DeskState)
    (device : DeviceState P) : Type 0 where
  -- the desk has not failed: it serves a system
  pub served : State
  pub serves : Serves served desk
  -- the device has as many pages as the desk, as the desk last noted that they are saved
  pub many : length device.content ≡ length (saved_of desk.session)
  pub saved : IsTrue honest → device.content ≡ saved_of desk.session
  pub ready : IsTrue honest → IsReady may_leave device

-- so it is with each durable desk, until it has failed
pub record IsDurable {P : Type 0} (honest : Bool) (may_leave : P → Left → Type 0) (desk : DeskState)
    (device : DeviceState P) (has_failed : Bool) : Type 0 where
  pub sound : has_failed ≡ false → IsCommitted honest may_leave desk device

-- the device is as it was, and so are both files: no crash leaves anything else; and whether the desk has failed
pub record KeepsFile {P : Type 0} (fails : Bool) (old new : DurableState P) : Type 0 where
  pub device : new.device ≡ old.device
  pub failed : new.has_failed ≡ (old.has_failed || fails)

-- ---- a commit

-- what the device holds and the calls of the log come to this system, where none is left out
abbrev pub IsBehind : {P : Type 0} → State → LogState → DeviceState P → Type 0
IsBehind s log device = IsTrue log.is_whole → ComesWith (held device) log.bytes (restarted s)

-- what the device holds comes to each system that the desk serves and the log was behind, and the desk serves on
pub record HasCommitted {P : Type 0} (honest : Bool) (may_leave : P → Left → Type 0) (desk after : DeskState)
    (log rest : LogState) (device then : DeviceState P) : Type 0 where
  pub keeps : KeepsServing desk after
  pub comes : IsTrue honest → (s : State) → Serves s desk → IsBehind s log device → ComesTo (held then) (restarted s)
  pub none : rest ≡ empty
  pub committed : IsCommitted honest may_leave after then

-- why not: a transfer failed, and the desk serves on; or the desk has failed
abbrev pub FailsToCommit : {P : Type 0} → Uncommitted → (desk after : DeskState) → (device then : DeviceState P) →
    Type 0
FailsToCommit Device desk after device then = KeepsServing desk after × HasRisen device.failed then.failed
FailsToCommit Desk desk after device then = after.session.failed ≡ true
FailsToCommit Earlier desk after device then = ⊥

-- it was made
pub record IsMade {P : Type 0} (honest : Bool) (may_leave : P → Left → Type 0) (old new : DurableState P) : Type 0
  where
    pub was_sound : old.has_failed ≡ false
    pub done : HasCommitted honest may_leave old.desk new.desk old.log new.log old.device new.device
    pub sound : new.has_failed ≡ false

-- or was not, and is not from here on
pub record IsNotMade {P : Type 0} (fault : Uncommitted) (old new : DurableState P) : Type 0 where
  pub was_sound : old.has_failed ≡ false
  pub cause : FailsToCommit fault old.desk new.desk old.device new.device
  pub failed : new.has_failed ≡ true

-- or it has failed before, and nothing was done
pub record IsRefused {P : Type 0} (old new : DurableState P) : Type 0 where
  pub failed : old.has_failed ≡ true
  pub same : new ≡ old

abbrev pub Commits : {P : Type 0} → Bool → (P → Left → Type 0) → Result Unit Uncommitted →
    (old new : DurableState P) → Type 0
Commits honest may_leave (Ok done) old new = IsMade honest may_leave old new
Commits honest may_leave (Err Device) old new = IsNotMade Device old new
Commits honest may_leave (Err Desk) old new = IsNotMade Desk old new
Commits honest may_leave (Err Earlier) old new = IsRefused old new

-- what a crash leaves is recovered to this, what was committed last, or it comes to the system
abbrev pub IsLastOrComes : (last : Saved) → State → Left → Type 0
IsLastOrComes last s left = (recovered left ≡ last) ⊎ ComesTo (recovered left) (restarted s)

-- a crash at any moment of a commit leaves what was committed last, or what comes to each system that the desk serves
-- and the log was behind
abbrev pub IsCutShortOn : {P : Type 0} → Bool → (P → ℕ) → (P → ℕ → Left → Type 0) → DeskState → LogState →
    (device then : DeviceState P) → Type 0
IsCutShortOn honest moment left_since desk log device then =
    IsTrue honest → (s : State) → Serves s desk → IsBehind s log device →
    LeavesOnly moment left_since device.pair then.pair (IsLastOrComes (held device) s)

abbrev pub IsCutShort : {P : Type 0} → Bool → (P → ℕ) → (P → ℕ → Left → Type 0) → (old new : DurableState P) → Type 0
IsCutShort honest moment left_since old new =
    old.has_failed ≡ false → IsCutShortOn honest moment left_since old.desk old.log old.device new.device
