-- The structure change under way: at most one, a split or a merge, by its phases.
use Rattle.std.specs.Prelude.{ℕ, suc, ◌≡◌, ◌==◌, List, [], ◌∷◌, if◌then◌else◌}
use Rattle.directory.specs.declared.range.Range.{Range}
use Rattle.directory.specs.Ranges.{Covers, upper_half_of}

-- of a split or a merge `whole` is the range of both buckets together
pub data Change : Type 0 where
  -- none
  Quiet : Change
  -- a page was taken off the free list, and is still as it was (so also while the directory doubles)
  Taken : (new : ℕ) → Change
  -- the new page holds the upper half of the old bucket, but no link leads to it
  Filled : (old new : ℕ) → Change
  -- the old bucket keeps its lower half, and the new one follows it; entries and counts lag behind
  Linked : (old new : ℕ) (whole : Range) → Change
  -- the left bucket holds the records of both; the right one still stands, but no link leads to it
  Absorbed : (left right : ℕ) (whole : Range) → Change
  -- the right page is a tombstone; entries and counts lag behind
  Buried : (left right : ℕ) (whole : Range) → Change
  -- the right page is a tombstone, and no entry names it
  Drained : (left right : ℕ) → Change
  -- the right page is free, but not on the free list
  Freed : (right : ℕ) → Change

-- the page that the change owns: it is neither live nor on the free list
abbrev pub owned : Change → List ℕ
owned (Taken new) = new ∷ []
owned (Filled old new) = new ∷ []
owned (Absorbed left right whole) = right ∷ []
owned (Buried left right whole) = right ∷ []
owned (Drained left right) = right ∷ []
owned (Freed right) = right ∷ []
owned c = []

-- the page that a merge took off the chain, while a search may still stand on it
abbrev pub aside : Change → List ℕ
aside (Absorbed left right whole) = right ∷ []
aside (Buried left right whole) = right ∷ []
aside (Drained left right) = right ∷ []
aside c = []

-- the pages whose records the phase speaks of: nobody but the one who makes the change writes them
abbrev pub busy : Change → List ℕ
busy (Filled old new) = old ∷ new ∷ []
busy (Absorbed left right whole) = left ∷ right ∷ []
busy c = []

-- an entry of the upper half may still name the page that led to its bucket's
abbrev pub TakesDetour : Change → ℕ → ℕ → Type 0
TakesDetour (Linked old new whole) i n = (n ≡ old) × Covers (upper_half_of whole) i
TakesDetour (Absorbed left right whole) i n = (n ≡ right) × Covers (upper_half_of whole) i
TakesDetour (Buried left right whole) i n = (n ≡ right) × Covers (upper_half_of whole) i
TakesDetour c i n = ⊥

-- the header's counts are those from before the change. Here is what it makes more of, and what it makes less of
abbrev pub gained : Change → ℕ → ℕ
gained (Linked old new whole) depth = if suc whole.depth == depth then 2 else 0
gained (Absorbed left right whole) depth = if whole.depth == depth then 1 else 0
gained (Buried left right whole) depth = if whole.depth == depth then 1 else 0
gained c depth = 0

abbrev pub lost : Change → ℕ → ℕ
lost (Linked old new whole) depth = if whole.depth == depth then 1 else 0
lost (Absorbed left right whole) depth = if suc whole.depth == depth then 2 else 0
lost (Buried left right whole) depth = if suc whole.depth == depth then 2 else 0
lost c depth = 0
