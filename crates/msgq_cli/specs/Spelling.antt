-- Texts in a room that is filled from its end on.
use Rattle.std.specs.Prelude.{◌≡◌, ◌≤◌, ℕ, List, ◌++◌, drop}

-- from a start on the new room has a text, and behind it what the old one had from an end on
pub record IsSpelled (text old new : List ℕ) (end start : ℕ) : Type 0 where
  pub within : start ≤ end
  pub spelled : drop start new ≡ text ++ drop end old
