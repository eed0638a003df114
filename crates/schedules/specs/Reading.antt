-- How readings follow one another, and what a reader of the code may answer.
use Rattle.std.specs.Prelude.{◌≡◌, Option, Some, None, Result, Ok, Err, ⊤}
use Rattle.schedules.specs.declared.refusal.Refusal.{Refusal}
use Rattle.schedules.specs.declared.refusal.Refusal.TheVariants.{Wrong, NoMemory}

-- the second reading, where the first gave a value
infixl 10 ◌>>=◌
abbrev pub ◌>>=◌ : {A B : Type 0} → Option A → (A → Option B) → Option B
Some x >>= f = f x
None >>= f = None

-- a reader answers what the grammar gives, and that it is wrong where it gives nothing, unless memory runs out
abbrev pub Gives : {A : Type 0} → Result A Refusal → Option A → Type 0
Gives (Ok x) given = given ≡ Some x
Gives (Err Wrong) given = given ≡ None
Gives (Err NoMemory) given = ⊤
