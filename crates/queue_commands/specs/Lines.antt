-- The lines of a text, line ends included. docs/SHELL.md, "What each does".
use Rattle.std.specs.Prelude.{ℕ, ◌+◌, ◌≡◌, ◌≤◌, ◌<◌, ◌==◌, List, [], ◌∷◌, length, take, drop, Option, Some, None}
use Rattle.std.specs.List.{All, position}
use Rattle.numbers.specs.declared.limits.TheConstants.{MAX_BODY}

-- as many bytes has the first line, which ends behind the first line end (10) or with the text
abbrev pub line_up_to : List ℕ → Option ℕ → ℕ
line_up_to text None = length text
line_up_to text (Some place) = place + 1

abbrev pub first_line : List ℕ → ℕ
first_line text = line_up_to text (position (λ (byte : ℕ). byte == 10) text)

-- a text that is not empty begins with this line
pub record BeginsWithLine (text line : List ℕ) : Type 0 where
  pub some : 0 < length text
  pub first : line ≡ take (first_line text) text

-- these are its lines, in order
abbrev pub AreLines : List ℕ → List (List ℕ) → Type 0
AreLines text [] = text ≡ []
AreLines text (line ∷ lines) = BeginsWithLine text line × AreLines (drop (first_line text) text) lines

-- it is short enough for a message
abbrev pub IsShort : List ℕ → Type 0
IsShort body = length body ≤ MAX_BODY

-- a text is sent by these messages, a line each
pub record ArePutAs (text : List ℕ) (bodies : List (List ℕ)) : Type 0 where
  pub lines : AreLines text bodies
  pub short : All IsShort bodies
