-- What a reader of a line may answer, and how words are taken one after the other.
use Rattle.std.specs.Prelude.{◌≡◌, ℕ, List, [], ◌∷◌, Option, Some, None, Result, Ok, Err, ⊤}
use Rattle.std.specs.Borrow.{Bor}
use Rattle.schedules.specs.Reading.{◌>>=◌}
use Rattle.schedules.specs.Words.{texts}
use Rattle.msgq_cli.specs.declared.mistake.Unread.{Unread}
use Rattle.msgq_cli.specs.declared.mistake.Unread.TheVariants.{Wrong, NoMemory}

-- a reader answers what the grammar gives, and that it is wrong where it gives nothing, unless memory runs out
abbrev pub IsRead : {A : Type 0} → Result A Unread → Option A → Type 0
IsRead (Ok x) given = given ≡ Some x
IsRead (Err (Wrong mistake)) given = given ≡ None
IsRead (Err NoMemory) given = ⊤

-- what the first word is read as, with the words that follow it
abbrev pub next : {A : Type 0} → (List ℕ → Option A) → List (List ℕ) → Option (A × List (List ℕ))
next read [] = None
next read (word ∷ words) = do
  x ← read word
  Some (x, words)

-- a reader of one word answers what it is read as, and the words that follow it
abbrev pub Takes : {A : Type 0} → Result (A × Bor (List (Bor (List ℕ)))) Unread → Option (A × List (List ℕ)) → Type 0
Takes (Ok p) given = given ≡ Some (p.0, texts p.1.now)
Takes (Err (Wrong mistake)) given = given ≡ None
Takes (Err NoMemory) given = ⊥

-- this, where no word follows
abbrev pub alone : {A : Type 0} → A → List (List ℕ) → Option A
alone x [] = Some x
alone x (word ∷ words) = None
