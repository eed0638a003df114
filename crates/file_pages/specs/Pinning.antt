-- A page that is pinned within a step.
use Rattle.std.specs.Prelude.{◌≡◌, ℕ, ◌+◌, ◌<◌, ◌≤◌, true, length, slice_set}
use Rattle.buffer_pool.specs.Pool.{PoolState, KeepsImages, pins_at, spared}

-- the page is there and was pinned once more, and this is the right to it
pub record IsPinned (page : ℕ) (old new : PoolState) (right : ℕ) : Type 0 where
  pub right_is : right ≡ page
  pub within : page < length old.images
  pub once : pins_at new page ≡ pins_at old page + 1
  pub pins : new.pins ≡ slice_set old.pins page (pins_at old page + 1)
  pub keeps : KeepsImages true old new
  pub stored : spared new ≡ spared old
  pub later : old.faults ≤ new.faults
