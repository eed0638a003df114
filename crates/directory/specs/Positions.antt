-- Positions: pseudokeys in the order that reads their lowest bit first, so that each range of
-- equal low bits is an interval.
use Rattle.std.specs.Prelude.{ℕ, zero, suc, ◌+◌, ◌-◌, ◌*◌, ◌/◌, ◌%◌, ◌^◌}
use Rattle.directory.specs.declared.pseudokey.TheConstants.{PSEUDOKEY_BITS}

-- the number whose w bits are the low w bits of k in reverse order; opaque, like the next two,
-- so that no search computes it bit by bit: proofs go by the laws of proofs/
unfoldable pub bits_reversed : ℕ → ℕ → ℕ
bits_reversed zero k = 0
bits_reversed (suc w) k = (k % 2) * 2 ^ w + bits_reversed w (k / 2)

-- where a pseudokey stands in that order
unfoldable pub position_of : ℕ → ℕ
position_of k = bits_reversed PSEUDOKEY_BITS k

-- how many positions a range of this depth has
unfoldable pub width_of : ℕ → ℕ
width_of depth = 2 ^ (PSEUDOKEY_BITS - depth)
