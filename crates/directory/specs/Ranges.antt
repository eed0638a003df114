-- Ranges of pseudokeys: those that agree in their low bits (the local depth and the pattern of a
-- bucket; Fagin et al. 1979), their intervals of positions, and their halves.
use Rattle.std.specs.Prelude.{ℕ, suc, ◌≡◌, ◌<◌, ◌≤◌, ◌+◌, ◌-◌, ◌%◌, ◌^◌, Bool, nat_lt, if◌then◌else◌}
use Rattle.directory.specs.declared.pseudokey.TheConstants.{PSEUDOKEY_BITS}
use Rattle.directory.specs.declared.range.Range.{Range}
use Rattle.directory.specs.Positions.{position_of, width_of}

-- the low l bits of k are p
abbrev pub InRange : ℕ → ℕ → ℕ → Type 0
InRange l p k = k % 2 ^ l ≡ p

-- a depth and a pattern that go together
pub record IsRange (r : Range) : Type 0 where
  -- no more bits count than a pseudokey has
  pub within : r.depth ≤ PSEUDOKEY_BITS
  -- the pattern has no bit beyond them
  pub below : r.pattern < 2 ^ r.depth

-- the range of all pseudokeys
abbrev pub whole_range : Range
whole_range = record { depth = 0; pattern = 0 }

-- a pseudokey lies in the range
abbrev pub Covers : Range → ℕ → Type 0
Covers r k = InRange r.depth r.pattern k

-- the first position of the range
abbrev pub start_of : Range → ℕ
start_of r = position_of r.pattern

-- the first position behind it
abbrev pub stop_of : Range → ℕ
stop_of r = start_of r + width_of r.depth

-- a position lies in the range's interval
abbrev pub HasPosition : Range → ℕ → Type 0
HasPosition r p = (start_of r ≤ p) × (p < stop_of r)

-- one bit more counts, and it is 0
abbrev pub lower_half_of : Range → Range
lower_half_of r = record { depth = suc r.depth; pattern = r.pattern }

-- one bit more counts, and it is 1
abbrev pub upper_half_of : Range → Range
upper_half_of r = record { depth = suc r.depth; pattern = r.pattern + 2 ^ r.depth }

-- x and y are the two halves of r, the lower one first
pub record AreHalvesOf (r x y : Range) : Type 0 where
  pub lower : x ≡ lower_half_of r
  pub upper : y ≡ upper_half_of r

-- the last bit that counts is 0
abbrev pub is_lower : Range → Bool
is_lower r = nat_lt r.pattern (2 ^ (r.depth - 1))

-- one bit fewer counts
abbrev pub parent_of : Range → Range
parent_of r = record { depth = r.depth - 1; pattern = r.pattern % 2 ^ (r.depth - 1) }

-- the last bit that counts is turned
abbrev pub buddy_of : Range → Range
buddy_of r = record r {
  pattern = if is_lower r then r.pattern + 2 ^ (r.depth - 1) else r.pattern - 2 ^ (r.depth - 1);
}
