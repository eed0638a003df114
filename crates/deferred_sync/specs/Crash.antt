-- What a crash leaves of what is done over a file and its journal, in words of the pages that the next opening finds:
-- those that recovery gives.
use Rattle.std.specs.Prelude.{◌≡◌, ◌⊎◌, ℕ, List}
use Rattle.deferred_sync.specs.Deferred.{LeavesSince}
use Rattle.safe_device.specs.Crash.{Keeps}
use Rattle.safe_device.specs.Left.{Left, alone, recovered}

-- the pages of a file
abbrev pub Pages : Type 0
Pages = List (List ℕ)

-- found are pages of which this is so, and no calls behind them
pub record IsAfter (After : Pages → Type 0) (left : Left) : Type 0 where
  pub pages : Pages
  pub found : recovered left ≡ alone pages
  pub is : After pages

-- found are the pages of before, with no calls behind them, or pages of which this is so
abbrev pub IsBeforeOr : Pages → (Pages → Type 0) → Left → Type 0
IsBeforeOr before After left = (recovered left ≡ alone before) ⊎ IsAfter After left

module _ {P : Type 0} (moment : P → ℕ) (left_since : P → ℕ → Left → Type 0) (may_leave : P → Left → Type 0) where
  -- what a crash leaves of what was done to a pair of files since a beginning
  pub record LeavesBeforeOrAfter (began : ℕ) (left : ℕ → Left → Type 0) (before : Pages) (After : Pages → Type 0)
      (Done : Type 0) (pair : P) : Type 0 where
    -- Cut off at any moment, the next opening finds the pages of before, or those of after.
    pub any_moment : LeavesSince moment left_since began left (IsBeforeOr before After) pair
    -- Once it is done, only the latter.
    pub done : Done → Keeps (IsAfter After) (may_leave pair)
