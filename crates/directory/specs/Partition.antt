-- A sound list of ranges, in plain words: it ascends, and each pseudokey lies in exactly one.
use Rattle.std.specs.Prelude.{ℕ, ◌≡◌, ◌<◌, List}
use Rattle.std.specs.List.{All, AllPairs, Contains}
use Rattle.directory.specs.declared.pseudokey.TheConstants.{POSITIONS}
use Rattle.directory.specs.declared.range.Range.{Range}
use Rattle.directory.specs.Ranges.{IsRange, Covers, start_of}

-- a pseudokey lies in the range of x, and in that of no other item
pub record IsOnlyItemOf {X : Type 0} (range : X → Range) (xs : List X) (k : ℕ) (x : X) : Type 0 where
  pub stands : Contains xs x
  pub covers : Covers (range x) k
  pub only : (y : X) → Contains xs y → Covers (range y) k → y ≡ x

-- a pseudokey lies in the range of exactly one item
abbrev pub LiesInOne : {X : Type 0} → (X → Range) → List X → ℕ → Type 0
LiesInOne {X} range xs k = (x : X) × IsOnlyItemOf range xs k x

pub record IsPartition {X : Type 0} (range : X → Range) (xs : List X) : Type 0 where
  -- no pattern has a bit beyond its depth
  pub valid : All (λ x. IsRange (range x)) xs
  -- patterns ascend in bit-reversed order
  pub ascends : AllPairs (λ x y. start_of (range x) < start_of (range y)) xs
  -- the ranges neither overlap nor leave a gap
  pub once : (k : ℕ) → k < POSITIONS → LiesInOne range xs k
