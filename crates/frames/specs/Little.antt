-- Numbers in bytes, the lowest byte first; unfoldable, so that no proof counts their bytes out.
use Rattle.std.specs.Prelude.{ℕ, List, drop}
use Rattle.byteorder.specs.Endian.{little_bytes, little_number}

-- the two, four or eight bytes of a number
unfoldable pub two : ℕ → List ℕ
two n = little_bytes 2 n

unfoldable pub four : ℕ → List ℕ
four n = little_bytes 4 n

unfoldable pub eight : ℕ → List ℕ
eight n = little_bytes 8 n

-- the number in the two, four or eight bytes from a place on
unfoldable pub two_at : ℕ → List ℕ → ℕ
two_at at bytes = little_number 2 (drop at bytes)

unfoldable pub four_at : ℕ → List ℕ → ℕ
four_at at bytes = little_number 4 (drop at bytes)

unfoldable pub eight_at : ℕ → List ℕ → ℕ
eight_at at bytes = little_number 8 (drop at bytes)
