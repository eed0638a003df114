-- Records that a system does not need, and which of them is the first, in the order of the chain and on each page from
-- the lowest key on (docs/FORMAT.md, "Records").
use Rattle.std.specs.Prelude.{◌≡◌, ◌≢◌, ℕ, ◌<◌, List, None, length, slice_index, take}
use Rattle.std.specs.List.{All}
use Rattle.type_chains.specs.RecordOf.{record_of}
use Rattle.file_check.specs.declared.fault.CheckFault.TheVariants as faults
use Rattle.file_check.specs.Records.{IsFirstIn, key_of_parts}
use Rattle.file_check.specs.Words.{Bucket, CheckFault, Pair, State, Store, bucket_at, records_at}

-- the system has a record at its key
abbrev pub IsNeeded : State → Pair → Type 0
IsNeeded system p = record_of system p.key ≢ None

abbrev pub IsStray : State → Pair → Type 0
IsStray system p = record_of system p.key ≡ None

-- the system needs all records on page n, and all on these pages
abbrev pub AreNeededOn : State → Store → ℕ → Type 0
AreNeededOn system s n = All (IsNeeded system) (records_at s n)

abbrev pub AreNeeded : State → Store → List ℕ → Type 0
AreNeeded system s ns = All (AreNeededOn system s) ns

-- the first stray record in the bucket on a page
abbrev pub IsStrayIn : State → Bucket → ℕ → CheckFault → Type 0
IsStrayIn system b page (faults.Stray p kind queue number) =
    (p ≡ page) × IsFirstIn b (IsNeeded system) (IsStray system) (key_of_parts kind queue number)
IsStrayIn system b page fault = ⊥

-- the first bucket of the chain in which a record is stray, and which
pub record IsFirstStray (system : State) (s : Store) (ns : List ℕ) (fault : CheckFault) : Type 0 where
  pub place : ℕ
  pub within : place < length ns
  pub before : AreNeeded system s (take place ns)
  pub stray : IsStrayIn system (bucket_at s (slice_index ns place)) (slice_index ns place) fault
