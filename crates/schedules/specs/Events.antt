-- What one word of a schedule asks for. docs/SCRIPTS.md, "Schedules".
use Rattle.std.specs.Prelude.{ℕ, ◌==◌, ◌&&◌, not, nat_le, Bool, List, [], ◌∷◌, length, take, drop, codes, Option, Some, None, if◌then◌else◌}
use Rattle.std.specs.Option.{option_map, unwrap_or}
use Rattle.std.specs.Char.{is_ascii_digit}
use Rattle.std.specs.List.{find, position}
use Rattle.std.specs.Str.{bytes_eq}
use Rattle.step_rules.specs.declared.kind.Kind.{Kind}
use Rattle.step_rules.specs.Kinds.{name_of}
use Rattle.schedules.specs.Numbers.{number_of, seat_of}
use Rattle.schedules.specs.Reading.{◌>>=◌}
use Rattle.schedules.specs.declared.event.Event.{Event}
use Rattle.schedules.specs.declared.event.Event.TheVariants.{Steps, Drive, Until, Stop}
use Rattle.schedules.specs.declared.event.TheConstants.{MAX_COUNT}
use Rattle.schedules.specs.declared.kinds.TheConstants.{KINDS}

abbrev pub is_named : List ℕ → Kind → Bool
is_named name kind = bytes_eq name (name_of kind)

-- the kind that has this name
abbrev pub kind_named : List ℕ → Option Kind
kind_named name = find (is_named name) KINDS

-- a number from 1 to the greatest count
abbrev pub count_of : List ℕ → Option ℕ
count_of word = do
  count ← number_of word
  if nat_le 1 count && nat_le count MAX_COUNT then Some count else None

-- no decimal digit
abbrev pub is_mark : ℕ → Bool
is_mark byte = not (is_ascii_digit byte)

-- so many decimal digits stand before the first mark
abbrev pub digits_before : List ℕ → ℕ
digits_before word = unwrap_or (position is_mark word) (length word)

-- by what stands behind the digits of the seat: nothing, `:K` (58), `!` (33) or `@KIND` (64)
abbrev pub marked : ℕ → List ℕ → Option Event
marked seat [] = Some (Steps seat 1)
marked seat (mark ∷ rest) =
    if mark == 58 then option_map (Steps seat) (count_of rest)
    else if mark == 64 then option_map (Until seat) (kind_named rest)
    else if mark == 33 && length rest == 0 then Some (Drive seat)
    else None

abbrev pub seat_event_of : (digits rest : List ℕ) → Option Event
seat_event_of digits rest = do
  seat ← seat_of digits
  marked seat rest

-- what a word asks for
abbrev pub event_of : List ℕ → Option Event
event_of word =
    if bytes_eq word (codes "stop") then Some Stop
    else seat_event_of (take (digits_before word) word) (drop (digits_before word) word)
