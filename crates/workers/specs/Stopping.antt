-- What is known of who may stop a system.
use Rattle.std.specs.Prelude.{◌≡◌, Bool, true, false, List, [], ◌∷◌, length}
use Rattle.interleavings.specs.Moments.{once_if}
use Rattle.workers.specs.Told.{Sitter}
use Rattle.workers.specs.Words.{Entry}

-- whether it was stopped
pub record StopperView : Type 0 where
  pub used : Bool

abbrev pub is_used : List Entry → Bool
is_used [] = false
is_used (e ∷ es) = true

-- at no seat: of the journal the stop is known, which comes once
pub record IsStopper (x : Sitter) : Type 0 where
  pub none : x.seat ≡ 0
  pub once : length x.list ≡ once_if (is_used x.list)

-- the stop is known
pub record HasStopped (x : Sitter) : Type 0 where
  pub none : x.seat ≡ 0
  pub one : length x.list ≡ 1
