-- Where the first element stands that passes a test.
-- docs/QUEUES.md, "Selection by type".
use Rattle.std.specs.Prelude.{◌≡◌, ℕ, ◌<◌, Bool, List, length, Some, slice_index_or}
use Rattle.std.specs.List.{find, position_or_len}

-- the first element that passes stands at a place
pub record IsFoundAt {X : Type 0} (p : X → Bool) (xs : List X) (place : ℕ) : Type 0 where
  pub within : place < length xs
  pub first : position_or_len p xs ≡ place
  pub found : (d : X) → find p xs ≡ Some (slice_index_or xs place d)
