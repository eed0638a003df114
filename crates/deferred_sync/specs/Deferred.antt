-- What a device whose sync is put off shows, and what a crash leaves of it.
use Rattle.std.specs.Prelude.{◌≡◌, ◌⊎◌, ℕ, ◌≤◌, Bool, true, false, IsTrue, List, []}
use Rattle.page_device.specs.Device.{HasRisen}
use Rattle.safe_device.specs.Crash.{Keeps}
use Rattle.safe_device.specs.Device.{DeviceState}
use Rattle.safe_device.specs.Left.{Left, alone}
use Rattle.safe_device.specs.Safe.{IsEither, StandsFor}

-- how a device is as it is lent: the moment, its pages, and how many transfers have failed
pub record Start : Type 0 where
  pub moment : ℕ
  pub pages : List (List ℕ)
  pub failed : ℕ

-- that of no device
abbrev pub no_start : Start
no_start = record { moment = 0; pages = []; failed = 0 }

-- that of a device now
abbrev pub start_of : {P : Type 0} → (P → ℕ) → DeviceState P → Start
start_of moment device = record { moment = moment device.pair; pages = device.content; failed = device.failed }

pub record DeferredState (P : Type 0) : Type 0 where
  pub device : DeviceState P
  -- a sync was asked for, and nothing was written since
  pub is_due : Bool

-- nothing has failed, and a crash leaves only the pages that there are, with no calls behind them
pub record IsSettled {P : Type 0} (may_leave : P → Left → Type 0) (device : DeviceState P) : Type 0 where
  pub usable : device.is_broken ≡ false
  pub kept : Keeps (StandsFor (alone device.content)) (may_leave device.pair)

-- A crash at any moment since a beginning leaves what has Q.
pub record LeavesSince {P : Type 0} (moment : P → ℕ) (left_since : P → ℕ → Left → Type 0) (began : ℕ)
    (left : ℕ → Left → Type 0) (Q : Left → Type 0) (pair : P) : Type 0 where
  pub later : began ≤ moment pair
  pub each : (c : Left) → left_since pair began c → Q c
  -- for a run that began earlier, of which a crash might have left so much by then
  pub before : (t : ℕ) (c : Left) → t ≤ began → left_since pair t c → left t c ⊎ Q c

module _ {P : Type 0} (honest : Bool) (moment : P → ℕ) (left_since : P → ℕ → Left → Type 0) where
  -- of a device that is lent nothing is committed since: a crash leaves the pages of then
  pub record IsLent (start : Start) (left : ℕ → Left → Type 0) (device : DeviceState P) : Type 0 where
    pub leaves : IsTrue honest → LeavesSince moment left_since start.moment left (StandsFor (alone start.pages))
        device.pair
    -- no fewer transfers have failed
    pub later : start.failed ≤ device.failed

  -- What was written is committed, or a transfer has failed. A crash since the beginning leaves the pages of then, or
  -- those that there are.
  pub record Commits (may_leave : P → Left → Type 0) (start : Start) (left : ℕ → Left → Type 0)
      (old new : DeviceState P) (succeeded : Bool) : Type 0 where
    pub same : new.content ≡ old.content
    pub leaves : IsTrue honest →
        LeavesSince moment left_since start.moment left (IsEither (alone start.pages) (alone old.content)) new.pair
    pub settled : IsTrue honest → succeeded ≡ true → IsSettled may_leave new
    pub synced : IsTrue honest → succeeded ≡ true → IsTrue new.is_synced
    pub failed : succeeded ≡ false → HasRisen start.failed new.failed
