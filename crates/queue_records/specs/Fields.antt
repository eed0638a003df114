-- Numbers in the fields of a value, where a field may be empty or hold a type.
-- docs/FORMAT.md, "Records".
use Rattle.std.specs.Prelude.{ℕ, ℤ, Option, Some, None, ◌==◌, if◌then◌else◌}
use Rattle.std.specs.Int.{w64, cast_signed, cast_unsigned}

-- the number of a serial, 0 for none
abbrev pub serial_number : Option ℕ → ℕ
serial_number None = 0
serial_number (Some serial) = serial

-- the number of a type, by two's complement
abbrev pub type_number : ℤ → ℕ
type_number mtype = cast_unsigned w64 mtype

-- the number of a type, 0 for none
abbrev pub type_link_number : Option ℤ → ℕ
type_link_number None = 0
type_link_number (Some mtype) = type_number mtype

-- what these numbers stand for
abbrev pub serial_of : ℕ → Option ℕ
serial_of n = if n == 0 then None else Some n

abbrev pub type_of : ℕ → ℤ
type_of n = cast_signed w64 n

abbrev pub type_link_of : ℕ → Option ℤ
type_link_of n = if n == 0 then None else Some (type_of n)

-- whether a key is given, and the key, 0 where it is not
abbrev pub key_flag : Option ℕ → ℕ
key_flag None = 0
key_flag (Some key) = 1

abbrev pub key_number : Option ℕ → ℕ
key_number None = 0
key_number (Some key) = key

abbrev pub given_key : ℕ → ℕ → Option ℕ
given_key flag key = if flag == 0 then None else Some key
