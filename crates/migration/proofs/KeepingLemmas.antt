-- What is kept of a device by an access.
use Rattle.std.proofs.Common.{◌≡◌, Err, ap}
use Rattle.buffer_pool.specs.Pool.{PoolState}
use Rattle.buffer_pool.specs.declared.fault.PoolFault.TheVariants as pools
use Rattle.file_pages.specs.Fault.{FileHasCause}
use Rattle.file_pages.specs.declared.fault.FileFault.{FileFault}
use Rattle.file_pages.specs.declared.fault.FileFault.TheVariants as files
use Rattle.lone_access.specs.Alone.{KeepsPool}
use Rattle.page_device.specs.declared.fault.DeviceFault.TheVariants as devices
use Rattle.migration.specs.Fault.{IsOfTransfer, of_file}
use Rattle.migration.specs.Writing.{KeepsDevice}

-- a step tells a transfer by one fault
of_transfer : (fault : FileFault) → IsOfTransfer (of_file fault) → fault ≡ files.Pool (pools.Device devices.Device)
of_transfer (files.Pool fault) is = ap files.Pool is
of_transfer files.Failed is = absurd is

-- one that has failed
pub keeps_failed : (old new : PoolState) (fault : FileFault) → KeepsPool old new → FileHasCause old new fault →
    KeepsDevice old new (Err (of_file fault))
keeps_failed old new fault keeps cause = record {
  keeps = keeps;
  failed = λ is. cause.risen (of_transfer fault is);
}
