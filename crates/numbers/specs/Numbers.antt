-- Numbers in bytes, the highest byte first; unfoldable, so that no proof counts their bytes out.
use Rattle.std.specs.Prelude.{ℕ, zero, suc, ◌+◌, ◌==◌, Bool, List, [], ◌∷◌, ◌++◌, length, take, drop, replicate}
use Rattle.std.specs.Int.Bits.{bit_or}
use Rattle.std.specs.List.{flat_map, fold, list_all}
use Rattle.byteorder.specs.Endian.{big_bytes, big_number}

-- the two, four or eight bytes of a number
unfoldable pub two : ℕ → List ℕ
two n = big_bytes 2 n

unfoldable pub four : ℕ → List ℕ
four n = big_bytes 4 n

unfoldable pub eight : ℕ → List ℕ
eight n = big_bytes 8 n

-- the number in the two, four or eight bytes from a place on
unfoldable pub two_at : ℕ → List ℕ → ℕ
two_at at bytes = big_number 2 (drop at bytes)

unfoldable pub four_at : ℕ → List ℕ → ℕ
four_at at bytes = big_number 4 (drop at bytes)

unfoldable pub eight_at : ℕ → List ℕ → ℕ
eight_at at bytes = big_number 8 (drop at bytes)

-- the bytes of numbers, one after the other
abbrev pub numbers_bytes : List ℕ → List ℕ
numbers_bytes ns = flat_map four ns

-- the numbers that stand first, as many as are asked for
abbrev pub numbers_of : ℕ → List ℕ → List ℕ
numbers_of zero bytes = []
numbers_of (suc n) bytes = four_at 0 bytes ∷ numbers_of n (drop 4 bytes)

-- so many zeros
unfoldable pub zeros : ℕ → List ℕ
zeros n = replicate n 0

-- the bits that are set in one byte or more
abbrev pub union : List ℕ → ℕ
union bytes = fold bit_or 0 bytes

abbrev pub is_zero : List ℕ → Bool
is_zero bytes = list_all (λ b. b == 0) bytes

-- the bytes with new ones from a place on, and the others as they were
abbrev pub overwritten : List ℕ → ℕ → List ℕ → List ℕ
overwritten bytes at new = take at bytes ++ new ++ drop (at + length new) bytes
