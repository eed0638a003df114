-- How long a command waits, as a word of its command line says it. docs/SHELL.md, "Waiting".
use Rattle.std.specs.Prelude.{ℕ, ◌+◌, ◌*◌, ◌==◌, Bool, List, [], ◌∷◌, Option, Some, None, take, drop, position}
use Rattle.std.specs.Option.{option_map}
use Rattle.schedules.specs.Numbers.{number_of}
use Rattle.schedules.specs.Reading.{◌>>=◌}

abbrev pub is_point : ℕ → Bool
is_point byte = byte == 46

-- one to three digits behind a point
abbrev pub thousandths_of : List ℕ → Option ℕ
thousandths_of (a ∷ []) = option_map (λ n. 100 * n) (number_of (a ∷ []))
thousandths_of (a ∷ b ∷ []) = option_map (λ n. 10 * n) (number_of (a ∷ b ∷ []))
thousandths_of (a ∷ b ∷ c ∷ []) = number_of (a ∷ b ∷ c ∷ [])
thousandths_of other = None

-- seconds, with a point at this place, if one is there
abbrev pub seconds_at : Option ℕ → List ℕ → Option ℕ
seconds_at None word = option_map (λ n. 1000 * n) (number_of word)
seconds_at (Some point) word = do
  whole ← number_of (take point word)
  part ← thousandths_of (drop (point + 1) word)
  Some (1000 * whole + part)

-- the thousandths of a second that a word of seconds says
abbrev pub milliseconds_of : List ℕ → Option ℕ
milliseconds_of word = seconds_at (position is_point word) word
