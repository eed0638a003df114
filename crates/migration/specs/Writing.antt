-- What the one seat that writes the new file leaves of its device.
use Rattle.std.specs.Prelude.{IfErr, Result}
use Rattle.buffer_pool.specs.Pool.{PoolState}
use Rattle.lone_access.specs.Alone.{KeepsPool}
use Rattle.page_device.specs.Device.{HasRisen}
use Rattle.migration.specs.Fault.{IsOfTransfer}
use Rattle.migration.specs.declared.fault.MakingFault.{MakingFault}

-- it is kept, and a transfer is told as failed only where one has
pub record KeepsDevice (old new : PoolState) (result : Result Unit MakingFault) : Type 0 where
  pub keeps : KeepsPool old new
  pub failed : IfErr result (λ fault. IsOfTransfer fault → HasRisen old.faults new.faults)
