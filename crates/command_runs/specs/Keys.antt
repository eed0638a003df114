-- How a queue is named on a command line. docs/SHELL.md.
use Rattle.std.specs.Prelude.{ℕ, ◌+◌, ◌-◌, ◌*◌, ◌^◌, ◌==◌, ◌&&◌, nat_le, nat_lt, List, [], ◌∷◌, Option, Some, None, if◌then◌else◌}
use Rattle.std.specs.List.{fold}
use Rattle.std.specs.Option.{option_map}
use Rattle.schedules.specs.Numbers.{number_of}
use Rattle.schedules.specs.Reading.{◌>>=◌}
use Rattle.queue_commands.specs.declared.queue_name.QueueName.{QueueName}
use Rattle.queue_commands.specs.declared.queue_name.QueueName.TheVariants.{Key, Id}

-- the value of a hexadecimal digit of either case
abbrev pub digit_of : ℕ → Option ℕ
digit_of byte =
    if nat_le 48 byte && nat_le byte 57 then Some (byte - 48)
    else if nat_le 97 byte && nat_le byte 102 then Some (byte - 97 + 10)
    else if nat_le 65 byte && nat_le byte 70 then Some (byte - 65 + 10)
    else None

-- a number with one digit more, where it still has 32 bits
abbrev pub with_digit : Option ℕ → ℕ → Option ℕ
with_digit value byte = do
  n ← value
  digit ← digit_of byte
  if nat_lt n (2 ^ 28) then Some (16 * n + digit) else None

-- the digits from the left, at least one
abbrev pub hexadecimal_of : List ℕ → Option ℕ
hexadecimal_of [] = None
hexadecimal_of (digit ∷ digits) = fold with_digit (Some 0) (digit ∷ digits)

-- a decimal key, or one behind `0x` (48 120)
abbrev pub key_of : List ℕ → Option ℕ
key_of [] = None
key_of (first ∷ []) = number_of (first ∷ [])
key_of (first ∷ second ∷ rest) =
    if first == 48 && second == 120 then hexadecimal_of rest else number_of (first ∷ second ∷ rest)

-- that of a key, or behind `@` (64) of an id
abbrev pub queue_name_of : List ℕ → Option QueueName
queue_name_of [] = None
queue_name_of (first ∷ rest) =
    if first == 64 then option_map Id (number_of rest) else option_map Key (key_of (first ∷ rest))
