-- The numbers of faults, which of them a step may tell, and which is the device's.
use Rattle.std.specs.Prelude.{ℕ, ◌≡◌, ⊤}
use Rattle.page_device.specs.numbers.declared.faults.TheConstants.{FAILED}
use Rattle.page_device.specs.Device.{HasRisen}
use Rattle.page_device.specs.declared.fault.DeviceFault.TheVariants as device
use Rattle.buffer_pool.specs.Fault.{number_of as pool_number_of}
use Rattle.buffer_pool.specs.Pool.{PoolState}
use Rattle.buffer_pool.specs.declared.fault.PoolFault.TheVariants as pool
use Rattle.file_pages.specs.declared.fault.FileFault.{FileFault}
use Rattle.file_pages.specs.declared.fault.FileFault.TheVariants.{Pool, Failed}

-- the number that a program prints for a fault
abbrev pub number_of : FileFault → ℕ
number_of (Pool fault) = pool_number_of fault
number_of Failed = FAILED

-- a transfer failed, or a page is not as it was checked. A step takes no memory, wants no frame but those that there
-- are, and adds no page
abbrev pub IsOfPage : FileFault → Type 0
IsOfPage (Pool (pool.Device device.Device)) = ⊤
IsOfPage (Pool (pool.Device device.BadDigest)) = ⊤
IsOfPage (Pool (pool.Device device.PastEnd)) = ⊤
IsOfPage (Pool (pool.Device device.DeviceFull)) = ⊥
IsOfPage (Pool (pool.Device device.NoMemory)) = ⊥
IsOfPage (Pool pool.Malformed) = ⊤
IsOfPage (Pool pool.TooFewFrames) = ⊥
IsOfPage (Pool pool.NoMemory) = ⊥
IsOfPage Failed = ⊤

-- a step tells what a page or a transfer may come to, and the fault of a transfer only where one has failed
pub record FileHasCause (old new : PoolState) (fault : FileFault) : Type 0 where
  pub page : IsOfPage fault
  pub risen : fault ≡ Pool (pool.Device device.Device) → HasRisen old.faults new.faults

-- a transfer of the device has failed, and this is the fault of that
pub record IsDevicesFault (old new : PoolState) (fault : FileFault) : Type 0 where
  pub risen : HasRisen old.faults new.faults
  pub told : fault ≡ Pool (pool.Device device.Device)
