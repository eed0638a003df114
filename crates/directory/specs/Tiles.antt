-- Items whose ranges lie side by side. What an item is, is left open: a range itself, or the
-- number of a page; `range` tells the range of an item.
use Rattle.std.specs.Prelude.{ℕ, ◌≡◌, ◌+◌, List, [], ◌∷◌, ◌++◌, if◌then◌else◌, nat_le}
use Rattle.std.specs.List.{Contains}
use Rattle.directory.specs.declared.range.Range.{Range}
use Rattle.directory.specs.Ranges.{IsRange, AreHalvesOf, start_of, stop_of}

-- a range that begins at position a
pub record IsTileAt (r : Range) (a : ℕ) : Type 0 where
  pub valid : IsRange r
  pub begins : start_of r ≡ a

-- the ranges lie side by side from position a to position b, in the order of the list
abbrev pub Tiles : {X : Type 0} → (X → Range) → ℕ → List X → ℕ → Type 0
Tiles range a [] b = a ≡ b
Tiles range a (x ∷ xs) b = IsTileAt (range x) a × Tiles range (stop_of (range x)) xs b

-- between `front` and `back`, `low` and `high` take the place of x and have the halves of its range
pub record Splits {X : Type 0} (old new : X → Range) (front : List X) (x low high : X) (back : List X) : Type 0 where
  pub halves : AreHalvesOf (old x) (new low) (new high)
  -- all others keep their ranges
  pub front_same : (y : X) → Contains front y → new y ≡ old y
  pub back_same : (y : X) → Contains back y → new y ≡ old y

-- x stands right before y
abbrev pub AreNeighbours : {X : Type 0} → List X → X → X → Type 0
AreNeighbours {X} xs x y = (front : List X) × (back : List X) × (xs ≡ front ++ x ∷ y ∷ back)

-- how many of the ranges begin at or before a position
abbrev pub begun : {X : Type 0} → (X → Range) → List X → ℕ → ℕ
begun range [] p = 0
begun range (x ∷ xs) p = (if nat_le (start_of (range x)) p then 1 else 0) + begun range xs p
