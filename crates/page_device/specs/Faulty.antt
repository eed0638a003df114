-- What a `FaultyDevice` keeps, and what its transfers do.
use Rattle.std.specs.Prelude.{◌≡◌, ◌≢◌, ℕ, ◌+◌, ◌-◌, min, Result, Err, IsErrOf}
use Rattle.page_device.specs.declared.fault.DeviceFault.{DeviceFault}
use Rattle.page_device.specs.declared.fault.DeviceFault.TheVariants.{Device}
use Rattle.page_device.specs.declared.faulty.FaultyDevice.{FaultyDevice}
use Rattle.page_device.specs.Device.{MOST_FAULTS, HasCause, HasRisen}

-- the device that transfers are passed on to
abbrev pub inner_of : {D : Type 0} → FaultyDevice D → D
inner_of device = device.inner

-- how many transfers are left up to the one that fails, with that one; 0 where none will fail
abbrev pub left_of : {D : Type 0} → FaultyDevice D → ℕ
left_of device = device.left

-- how many transfers have failed here
abbrev pub failed_of : {D : Type 0} → FaultyDevice D → ℕ
failed_of device = device.failed

-- the transfers that failed here and below, up to the greatest count
abbrev pub count_of : {D : Type 0} → (D → ℕ) → FaultyDevice D → ℕ
count_of faults device = min (faults device.inner + device.failed) MOST_FAULTS

-- the transfer failed here, and the device below never heard of it
pub record FailsHere {D : Type 0} (old new : FaultyDevice D) (result : Result Unit DeviceFault) : Type 0 where
  pub told : result ≡ Err Device
  pub inner : inner_of new ≡ inner_of old

-- the transfer is that of the device below: `Device` comes only where the faults there rose
pub record IsPassedOn {D : Type 0} (faults : D → ℕ) (old new : FaultyDevice D) (result : Result Unit DeviceFault) :
    Type 0 where
  pub failed : failed_of new ≡ failed_of old
  pub told : IsErrOf result Device → HasRisen (faults (inner_of old)) (faults (inner_of new))

-- a transfer is counted, and fails exactly where it is the one that is due
pub record Transfers {D : Type 0} (faults : D → ℕ) (old new : FaultyDevice D) (result : Result Unit DeviceFault) :
    Type 0 where
  pub counted : left_of new ≡ left_of old - 1
  pub due : left_of old ≡ 1 → FailsHere old new result
  pub passed : left_of old ≢ 1 → IsPassedOn faults old new result

-- a call of a faulty device, which is refused, or is a transfer
pub record Calls {D : Type 0} (MayTell : DeviceFault → Type 0) (faults : D → ℕ) (IsRefused : Type 0)
    (old new : FaultyDevice D) (result : Result Unit DeviceFault) : Type 0 where
  pub cause : HasCause MayTell (count_of faults old) (count_of faults new) result
  pub refused : IsRefused → new ≡ old
  pub transfer : ¬ IsRefused → Transfers faults old new result
