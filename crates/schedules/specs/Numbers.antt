-- Numbers, keys, modes and bodies as words. docs/SCRIPTS.md, "Words".
use Rattle.std.specs.Prelude.{ℕ, ◌+◌, ◌-◌, ◌*◌, ◌^◌, ◌==◌, ◌&&◌, ◌≤◌, nat_le, nat_lt, not, Bool, ℤ, pos, neg_ℤ, List, [], ◌∷◌, length, codes, Option, Some, None, if◌then◌else◌}
use Rattle.std.specs.Option.{option_map}
use Rattle.std.specs.Result.{result_ok}
use Rattle.std.specs.Char.{is_ascii_digit}
use Rattle.std.specs.List.{list_all}
use Rattle.std.specs.Str.{bytes_eq}
use Rattle.std.specs.Str.Parse.{digits_value}
use Rattle.hex.specs.Hex.{decode_of}
use Rattle.schedules.specs.Reading.{◌>>=◌}
use Rattle.schedules.specs.declared.values.TheConstants.{SEATS}

-- one decimal digit or more, and nothing else
abbrev pub is_numeral : List ℕ → Bool
is_numeral word = not (length word == 0) && list_all is_ascii_digit word

-- a decimal number below bound
abbrev pub decimal_of : ℕ → List ℕ → Option ℕ
decimal_of bound word =
    if is_numeral word && nat_lt (digits_value 10 word) bound then Some (digits_value 10 word) else None

-- a number of 32 bits
abbrev pub number_of : List ℕ → Option ℕ
number_of word = decimal_of (2 ^ 32) word

-- a word without the `-` (45) in front
abbrev pub without_minus : List ℕ → List ℕ
without_minus [] = []
without_minus (first ∷ rest) = if first == 45 then rest else first ∷ rest

-- a number of 64 bits, with a `-` in front where it is negative
abbrev pub signed_of : List ℕ → Option ℤ
signed_of [] = None
signed_of (first ∷ rest) =
    if first == 45 then option_map (λ n. neg_ℤ (pos n)) (decimal_of (2 ^ 63 + 1) rest)
    else option_map pos (decimal_of (2 ^ 63) (first ∷ rest))

-- seats count from 1
abbrev pub IsSeat : ℕ → Type 0
IsSeat n = (1 ≤ n) × (n ≤ SEATS)

-- the number of a seat
abbrev pub seat_of : List ℕ → Option ℕ
seat_of word = do
  seat ← number_of word
  if nat_le 1 seat && nat_le seat SEATS then Some seat else None

-- a key, or none for `private`
abbrev pub key_of : List ℕ → Option (Option ℕ)
key_of word = if bytes_eq word (codes "private") then Some None else option_map Some (number_of word)

-- the value of a digit from `0` to `7`
abbrev pub octal_of : ℕ → Option ℕ
octal_of digit = if nat_le 48 digit && nat_le digit 55 then Some (digit - 48) else None

-- a mode: three octal digits
abbrev pub mode_of : List ℕ → Option ℕ
mode_of (owner ∷ group ∷ others ∷ []) = do
  a ← octal_of owner
  b ← octal_of group
  c ← octal_of others
  Some (64 * a + 8 * b + c)
mode_of word = None

-- a body: pairs of hexadecimal digits, or `-` for the empty one
abbrev pub body_of : List ℕ → Option (List ℕ)
body_of word =
    if bytes_eq word (codes "-") then Some []
    else if length word == 0 then None
    else result_ok (decode_of word)
