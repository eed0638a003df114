-- The ids of the Queues among records (docs/FORMAT.md, "Records").
use Rattle.std.specs.Prelude.{◌≡◌, ℕ, ◌==◌, Bool, ◌&&◌, List, [], ◌∷◌, if◌then◌else◌}
use Rattle.std.specs.List.{flat_map}
use Rattle.queue_records.specs.declared.layout.TheConstants.{QUEUE}
use Rattle.file_check.specs.Words.{IsLayout, IsRightStructureIn, Layout, Pair, RecordKey, chain, file_in}

-- the key of a Queue
abbrev pub is_queue : RecordKey → Bool
is_queue key = key.kind == QUEUE && key.number == 0

abbrev pub id_in : Pair → List ℕ
id_in p = if is_queue p.key then p.key.queue ∷ [] else []

abbrev pub ids_in : List Pair → List ℕ
ids_in ps = flat_map id_in ps

-- the structure is right, and these pages are its chain
pub record HasChain (l : Layout) (content : List (List ℕ)) (ns : List ℕ) : Type 0 where
  pub layout : IsLayout l
  pub structure : IsRightStructureIn l content ns
  pub chained : chain (file_in l content) ≡ ns
