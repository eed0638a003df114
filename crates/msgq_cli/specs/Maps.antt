-- The map of a file as JSON. docs/SCRIPTS.md, "Maps".
use Rattle.std.specs.Prelude.{◌≡◌, ◌⊎◌, ℕ, List, [], ◌∷◌, ◌++◌, codes, map}
use Rattle.serde_json.specs.Data.{Data, Members, number, array, object, unsigned, no_members, member}
use Rattle.serde_json.specs.View.{items_of}
use Rattle.serde_json.specs.Written.{compact_text}
use Rattle.msgq_cli.specs.Outputs.{OutputState, Prints}
use Rattle.msgq_cli.specs.Refusals.{IsFaultAlone}
use Rattle.msgq_cli.specs.declared.ending.Ending.{Ending}
use Rattle.msgq_cli.specs.declared.ending.Ending.TheVariants.{Done}
use Rattle.msgq_cli.specs.declared.file_map.FileMap.{FileMap}
use Rattle.msgq_cli.specs.declared.file_map.MappedBucket.{MappedBucket}

-- the members of an object, in the order of their names
abbrev pub named : List (List ℕ × Data) → Members
named [] = no_members
named ((name, d) ∷ more) = member name d (named more)

abbrev pub count : ℕ → Data
count n = number (unsigned n)

abbrev pub bucket_data : MappedBucket → Data
bucket_data b = object (named ((codes "bytes", count b.bytes) ∷ (codes "depth", count b.depth)
    ∷ (codes "next", count b.next) ∷ (codes "page", count b.page) ∷ (codes "pattern", count b.pattern)
    ∷ (codes "records", count b.records) ∷ []))

-- the object of a map, of which these are the buckets, the entries and the free pages
abbrev pub map_of : FileMap → List Data → List Data → List Data → Data
map_of m buckets entries free = object (named ((codes "buckets", array (items_of buckets))
    ∷ (codes "depth", count m.depth) ∷ (codes "entries", array (items_of entries))
    ∷ (codes "free", array (items_of free)) ∷ (codes "messages", count m.messages) ∷ (codes "pages", count m.pages)
    ∷ (codes "queues", count m.queues) ∷ []))

-- the buckets in the order of their chain, the entries, and the free pages in the order of their list
abbrev pub map_data : FileMap → Data
map_data m = map_of m (map bucket_data m.buckets.items) (map count m.entries.items) (map count m.free.items)

-- its text without space, and a line end (10)
abbrev pub map_text : FileMap → List ℕ
map_text m = compact_text (map_data m) ++ 10 ∷ []

-- a map is printed, and nothing else
pub record IsMapped (old new : OutputState) (ending : Ending) : Type 0 where
  pub map : FileMap
  pub prints : Prints old new (map_text map)
  pub ends : ending ≡ Done

-- a map is printed, or one fault
abbrev pub IsMapOrFault : OutputState → OutputState → Ending → Type 0
IsMapOrFault old new ending = IsMapped old new ending ⊎ ((fault : ℕ) × IsFaultAlone fault old new ending)
