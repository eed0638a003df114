-- What the machines that write a record have in common: a search that locks its pages Selective, what it has then seen
-- of the page, and what leads on from it. docs/STEPS.md, "Insert, Replace, Delete".
use Rattle.std.specs.Prelude.{ℕ, ◌≡◌, ◌⊎◌, Bool, true, false, List, [], ◌∷◌, Option, Some, None, IsSome, ⊤}
use Rattle.split_merge.specs.stale_search.declared.place.SearchPlace.{SearchPlace}
use Rattle.split_merge.specs.stale_search.declared.place.SearchPlace.TheVariants.{Found}
use Rattle.split_merge.specs.stale_search.Searches.{facts_at}
use Rattle.record_file.specs.Words.{RecordKey, Lock, Exclusive, Progress, Moved, WriteRecord, Known, LeadsTo, OnPage, Covering, Having, Lacking, SearchView, guard_of, kind_of}

-- the lock of the record is among those that the seat had before
abbrev pub Owns : List Lock → RecordKey → Type 0
Owns before key = kind_of before (guard_of key) ≡ Some Exclusive

-- where the page answered it covers the pseudokey, and has the key or not
abbrev pub seen_at : SearchPlace → RecordKey → ℕ → List Known
seen_at (Found n (Some bytes)) key k = LeadsTo n k ∷ OnPage n (Covering k) ∷ OnPage n (Having key bytes) ∷ []
seen_at (Found n None) key k = LeadsTo n k ∷ OnPage n (Covering k) ∷ OnPage n (Lacking key) ∷ []
seen_at place key k = facts_at place k

abbrev pub seen_of : SearchView → List Known
seen_of v = seen_at v.place v.key v.pseudokey

-- a page answered, and has no record of the key
abbrev pub TellsNone : Option (ℕ × Option ℕ) → Type 0
TellsNone None = ⊥
TellsNone (Some at) = at.1 ≡ None

-- and one that has
abbrev pub TellsSome : Option (ℕ × Option ℕ) → Type 0
TellsSome None = ⊥
TellsSome (Some at) = IsSome at.1

-- a search is left by the WriteRecord, or where the page that answered has no record of the key; it is told whether it
-- was left before the step and after it
abbrev pub LeavesSearch : {F : Type 0} → Progress F → Option (ℕ × Option ℕ) → (before after : Bool) → Type 0
LeavesSearch did at false true = (did ≡ Moved WriteRecord) ⊎ TellsNone at
LeavesSearch did at before after = ⊤
