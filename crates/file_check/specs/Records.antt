-- When the records of a file are right, and which is the first that is wrong. They are tested in the order of the
-- chain, and on each page from the lowest key on; of each record its place first, and then that it is one
-- (docs/FORMAT.md, "Records").
use Rattle.std.specs.Prelude.{◌≡◌, ℕ, true, ◌<◌, ◌≤◌, List, length, take, slice_index, slice_index_or, IsErrOf, Result}
use Rattle.std.specs.List.{All}
use Rattle.page_device.specs.Device.{HasRisen}
use Rattle.file_walk.specs.Order.{IsRightPageIn}
use Rattle.file_check.specs.Words.{IsLayout, LAYOUT, Layout, file_in, has_bucket, RecordKey, Bucket, Pair, Store, bucket_at, range_of, Covers, Record, SpellsIn, CheckFault}
use Rattle.file_check.specs.declared.fault.CheckFault.TheVariants as faults
use Rattle.file_walk.specs.declared.fault.StructureFault.TheVariants as structure

-- page n is sealed, and is a bucket of the file
pub record IsLivePage (l : Layout) (content : List (List ℕ)) (n : ℕ) : Type 0 where
  pub layout : IsLayout l
  pub behind : l.root_page ≤ n
  pub within : n < length content
  pub right : IsRightPageIn l content n
  pub live : has_bucket (file_in l content) n ≡ true

-- a record stands in the bucket of its pseudokey
abbrev pub IsAtHome : (RecordKey → ℕ) → Bucket → Pair → Type 0
IsAtHome hash b p = Covers (range_of b) (hash p.key)

-- key and value are a record's
abbrev pub IsRecordIn : Layout → Pair → Type 0
IsRecordIn l p = (r : Record) × SpellsIn l r p.key p.value

pub record IsRightRecordIn (l : Layout) (hash : RecordKey → ℕ) (b : Bucket) (p : Pair) : Type 0 where
  pub at_home : IsAtHome hash b p
  pub spelled : IsRecordIn l p

-- what is wrong with a record
pub record IsAstray (hash : RecordKey → ℕ) (b : Bucket) (p : Pair) : Type 0 where
  pub elsewhere : IsAtHome hash b p → ⊥

pub record IsNoRecord (l : Layout) (hash : RecordKey → ℕ) (b : Bucket) (p : Pair) : Type 0 where
  pub at_home : IsAtHome hash b p
  pub senseless : IsRecordIn l p → ⊥

-- a record of a bucket is the first that is wrong there, wrong in this way, and has this key
pub record IsFirstIn (b : Bucket) (IsRight IsWrong : Pair → Type 0) (key : RecordKey) : Type 0 where
  pub slot : ℕ
  pub within : slot < length b.records
  pub keyed : (d : Pair) → (slice_index_or b.records slot d).key ≡ key
  pub before : All IsRight (take slot b.records)
  pub wrong : (d : Pair) → IsWrong (slice_index_or b.records slot d)

abbrev pub key_of_parts : ℕ → ℕ → ℕ → RecordKey
key_of_parts kind queue number = record { kind = kind; queue = queue; number = number }

-- what is first found wrong in the bucket on a page
abbrev pub IsWrongIn : Layout → (RecordKey → ℕ) → Bucket → ℕ → CheckFault → Type 0
IsWrongIn l hash b page (faults.Misplaced p kind queue number) =
    (p ≡ page) × IsFirstIn b (IsRightRecordIn l hash b) (IsAstray hash b) (key_of_parts kind queue number)
IsWrongIn l hash b page (faults.BadRecord p kind queue number) =
    (p ≡ page) × IsFirstIn b (IsRightRecordIn l hash b) (IsNoRecord l hash b) (key_of_parts kind queue number)
IsWrongIn l hash b page fault = ⊥

-- all records of the bucket on page n are right
abbrev pub AreRightOn : Layout → (RecordKey → ℕ) → Store → ℕ → Type 0
AreRightOn l hash s n = All (IsRightRecordIn l hash (bucket_at s n)) (bucket_at s n).records

-- all records on these pages are right
abbrev pub AreRightRecordsIn : Layout → (RecordKey → ℕ) → Store → List ℕ → Type 0
AreRightRecordsIn l hash s ns = All (AreRightOn l hash s) ns

-- the first bucket of the chain in which a record is wrong, and which
pub record IsFirstWrongRecord (l : Layout) (hash : RecordKey → ℕ) (s : Store) (ns : List ℕ)
    (fault : CheckFault) : Type 0 where
  pub place : ℕ
  pub within : place < length ns
  pub before : AreRightRecordsIn l hash s (take place ns)
  pub wrong : IsWrongIn l hash (bucket_at s (slice_index ns place)) (slice_index ns place) fault

-- the count of failed transfers never falls, and `Device` comes only where it rose or can't rise
pub record HasCheckCause {T : Type 0} (old new : ℕ) (result : Result T CheckFault) : Type 0 where
  pub later : old ≤ new
  pub failed : IsErrOf result (faults.Structure structure.Device) → HasRisen old new

-- ---- today's layout

abbrev pub IsRecord : Pair → Type 0
IsRecord = IsRecordIn LAYOUT

abbrev pub IsRightRecord : (RecordKey → ℕ) → Bucket → Pair → Type 0
IsRightRecord = IsRightRecordIn LAYOUT

abbrev pub AreRightIn : (RecordKey → ℕ) → Store → ℕ → Type 0
AreRightIn = AreRightOn LAYOUT

abbrev pub AreRightRecords : (RecordKey → ℕ) → Store → List ℕ → Type 0
AreRightRecords = AreRightRecordsIn LAYOUT
