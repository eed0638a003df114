-- What is kept of a device, step after step.
use Rattle.std.proofs.Common.{◌∙◌, ◌≤◌, ℕ, Bool, inl, inr, arith}
use Rattle.buffer_pool.specs.Pool.{PoolState}
use Rattle.file_pages.specs.Writes.{OnlyWrites}
use Rattle.page_device.specs.Device.{HasRisen}
use Rattle.lone_access.specs.Alone.{KeepsPool}

pub keeps_on : (a b d : PoolState) → KeepsPool a b → KeepsPool b d → KeepsPool a d
keeps_on a b d first next = record {
  honest = next.honest ∙ first.honest;
  as_many = next.as_many ∙ first.as_many;
  later = omega (arith, first.later, next.later);
}

pub keeps_step : (done : Bool) (a b : PoolState) → OnlyWrites done a b → KeepsPool a b
keeps_step done a b writes = record { honest = writes.honest; as_many = writes.as_many; later = writes.later }

-- what has risen since later has risen since before
pub risen_since : (a b d : ℕ) → a ≤ b → HasRisen b d → HasRisen a d
risen_since a b d less (inl rose) = inl (omega (arith, less, rose))
risen_since a b d less (inr most) = inr most
