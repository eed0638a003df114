-- A file whose structure and records are right, and what is seen of a device that holds it.
use Rattle.std.specs.Prelude.{◌≡◌, ℕ, Bool, List, Option}
use Rattle.std.specs.List.{All, Contains}
use Rattle.record_walk.specs.Versions.{SpellsIn, held_in}
use Rattle.record_walk.specs.LookupWords.{IsLayout, RecordKey, Layout, Pair, Record, Store, IsPlaced, IsStructureIn, bucket_at, file_in, records_at}

-- key and value are a record's
abbrev pub IsRecord : Layout → Pair → Type 0
IsRecord l p = (r : Record) × SpellsIn l r p.key p.value

-- the structure is right, and this is what is kept of it; each record is one, and stands where it is looked for
pub record HasRecords (l : Layout) (hash : RecordKey → ℕ) (content : List (List ℕ)) (outline : Store) : Type 0 where
  pub chain : List ℕ
  pub structure : IsStructureIn l content outline chain
  pub placed : (n : ℕ) → Contains chain n → IsPlaced hash (bucket_at (file_in l content) n)
  pub spelled : (n : ℕ) → Contains chain n → All (IsRecord l) (records_at (file_in l content) n)

-- the layout of a file, its pages, whether their device is honest, and how many transfers have failed
pub record Source : Type 0 where
  pub layout : Layout
  pub content : List (List ℕ)
  pub honest : Bool
  pub faults : ℕ

-- both have one layout and the same pages, and are as honest
pub record IsSameFile (old new : Source) : Type 0 where
  pub layout : new.layout ≡ old.layout
  pub content : new.content ≡ old.content
  pub honest : new.honest ≡ old.honest

-- what the file on these pages holds at a key
abbrev pub held_on : Source → RecordKey → Option (List ℕ)
held_on source = held_in source.layout (file_in source.layout source.content)

abbrev pub source : Layout → List (List ℕ) → Bool → ℕ → Source
source layout content honest faults =
    record { layout = layout; content = content; honest = honest; faults = faults }
