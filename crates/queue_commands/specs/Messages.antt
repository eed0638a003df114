-- The messages that an input is. docs/SHELL.md, "What each does".
use Rattle.std.specs.Prelude.{ℕ, ◌≡◌, ◌≤◌, ◌<◌, List, [], ◌∷◌, length, Option, ⊤, IfSome}
use Rattle.numbers.specs.declared.limits.TheConstants.{MAX_BODY}
use Rattle.queue_commands.specs.Lines.{ArePutAs, IsShort}
use Rattle.queue_commands.specs.declared.messages.Framing.{Framing}
use Rattle.queue_commands.specs.declared.messages.Framing.TheVariants.{Whole, Lines}
use Rattle.queue_commands.specs.declared.unsent.Unsent.{Unsent}
use Rattle.queue_commands.specs.declared.unsent.Unsent.TheVariants.{Unread, LongInput, LongLine, TooMany, NoMemory}

-- these are all that the input gives, where what it gives is known
abbrev pub IsAllOf : Option (List ℕ) → List ℕ → Type 0
IsAllOf known text = IfSome known (λ (xs : List ℕ). text ≡ xs)

-- they are, and are at most so many
pub record IsAllUpTo (most : ℕ) (known : Option (List ℕ)) (text : List ℕ) : Type 0 where
  pub all : IsAllOf known text
  pub few : length text ≤ most

-- a text is sent by these messages
abbrev pub IsSentBy : Framing → List ℕ → List (List ℕ) → Type 0
IsSentBy Whole text bodies = (bodies ≡ text ∷ []) × IsShort text
IsSentBy Lines text bodies = ArePutAs text bodies

-- all that the input gives is sent by these messages
abbrev pub Sends : Framing → Option (List ℕ) → List (List ℕ) → Type 0
Sends framing known bodies = (text : List ℕ) × IsAllOf known text × IsSentBy framing text bodies

-- what is refused: an input that is too long for one message; of lines, too long or too many ones
abbrev pub Refuses : Framing → Option (List ℕ) → Unsent → Type 0
Refuses framing known (Unread error) = ⊤
Refuses framing known NoMemory = ⊤
Refuses framing known LongInput =
    (framing ≡ Whole) × IfSome known (λ (xs : List ℕ). MAX_BODY < length xs)
Refuses framing known (LongLine number) = framing ≡ Lines
Refuses framing known TooMany = framing ≡ Lines
