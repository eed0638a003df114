-- What an output holds, and what printing does to it. docs/SCRIPTS.md, "Output".
use Rattle.std.specs.Prelude.{◌≡◌, ℕ, Bool, true, false, List, ◌++◌, Option}
use Rattle.std.specs.Io.KnownBytes.{Appends}

-- whether a write was refused; the bytes that the writer and the buffer before it hold, and those that the writer
-- holds, where they are known
pub record OutputState : Type 0 where
  pub refused : Bool
  pub known : Option (List ℕ)
  pub handed : Option (List ℕ)

-- the writer took the beginning of a text
pub record TakesBeginning (old new : Option (List ℕ)) (text : List ℕ) : Type 0 where
  pub taken : List ℕ
  pub left : List ℕ
  pub parts : text ≡ taken ++ left
  pub appends : Appends old new taken

-- a writer takes the whole text, or refuses a write and has taken the beginning
abbrev pub Takes : Bool → Option (List ℕ) → Option (List ℕ) → List ℕ → Type 0
Takes false old new text = Appends old new text
Takes true old new text = TakesBeginning old new text

-- a text is printed; nothing is, once a write was refused
abbrev pub PrintsOn : Bool → OutputState → OutputState → List ℕ → Type 0
PrintsOn false old new text = Takes new.refused old.known new.known text
PrintsOn true old new text = new ≡ old

-- the new output holds what the old one held and the text, or where a write was refused the beginning of that
abbrev pub Prints : OutputState → OutputState → List ℕ → Type 0
Prints old new text = PrintsOn old.refused old new text
