-- What the machines of records tell of their answers. docs/STEPS.md, "Search".
use Rattle.std.specs.Prelude.{ℕ, ◌≡◌, ◌⊎◌, length, Option, Some, None}
use Rattle.std.specs.Option.{option_map}
use Rattle.record_file.specs.Words.{RecordKey, lookup, records_at, Progress, Moved, Look, World, IsAnswerOf}

-- the page that a seat holds answers for the key, has of it what the file holds, and this is the length of its value
pub record Tells (hash : RecordKey → ℕ) (seat page : ℕ) (key : RecordKey) (found : Option ℕ) (w : World)
    : Type 0 where
  pub answer : IsAnswerOf hash seat page key (lookup key (records_at w.store page)) w
  pub length_is : found ≡ option_map length (lookup key (records_at w.store page))

-- what was found is told by the page that was looked at
pub record IsFoundAtLook {F : Type 0} (hash : RecordKey → ℕ) (seat : ℕ) (did : Progress F) (key : RecordKey)
    (before after : Option (ℕ × Option ℕ)) (w : World) : Type 0 where
  pub looked : did ≡ Moved Look
  pub first : before ≡ None
  pub page : ℕ
  pub found : Option ℕ
  pub is : after ≡ Some (page, found)
  pub tells : Tells hash seat page key found w

-- an answer stays, and comes at a Look
abbrev pub FindsAt : {F : Type 0} → (RecordKey → ℕ) → ℕ → Progress F → RecordKey →
    (before after : Option (ℕ × Option ℕ)) → World → Type 0
FindsAt hash seat did key before after w = (after ≡ before) ⊎ IsFoundAtLook hash seat did key before after w
