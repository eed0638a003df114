-- Why a new file could not be made of a system, where no transfer failed: a record of it has no room.
-- docs/FORMAT.md, "Records"; docs/STEPS.md, "Insert, Replace, Delete".
use Rattle.std.specs.Prelude.{◌≡◌, ◌⊎◌, ℕ, List, length, Some, ⊤}
use Rattle.std.specs.List.{Contains}
use Rattle.bucket_page.specs.Records.{pair}
use Rattle.bucket_page.specs.declared.record_key.RecordKey.{RecordKey}
use Rattle.file_pages.specs.Files.{store_of}
use Rattle.hash_file.specs.Chain.{contents}
use Rattle.hash_file.specs.Change.{Change}
use Rattle.page_locks.specs.Table.{Table}
use Rattle.queue_model.specs.State.{State}
use Rattle.queue_records.specs.Spelling.{counter_key, key_of, value_of}
use Rattle.queue_records.specs.declared.record.Record.{Record}
use Rattle.stale_search.specs.Steps.{world}
use Rattle.step_rules.specs.Rooms.{HasNoRoom}
use Rattle.step_rules.specs.Sound.{IsSoundWorld}
use Rattle.type_chains.specs.Image.{image}
use Rattle.migration.specs.declared.fault.MakingFault.{MakingFault}
use Rattle.migration.specs.declared.fault.MakingFault.TheVariants as makings

-- key and value are those of a record of the system
pub record IsOfSystem (s : State) (key : RecordKey) (value : List ℕ) : Type 0 where
  pub entry : Record
  pub its : Contains (image s) entry
  pub keyed : key_of entry ≡ key
  pub valued : value_of entry ≡ value

-- of a file of so many pages these were the images, when a record of the system had no room in it: its bucket has
-- none, and no page is free or that bucket is as deep as one can be
pub record LacksRoomFor (hash : RecordKey → ℕ) (pages : ℕ) (s : State) : Type 0 where
  pub entry : Record
  pub its : Contains (image s) entry
  pub images : List (List ℕ)
  pub locks : Table
  pub change : Change
  pub as_many : length images ≡ pages
  pub sound : IsSoundWorld hash (world images locks change)
  pub lacks : HasNoRoom hash (pair (key_of entry) (value_of entry)) (world images locks change)
  -- but for the Counter that a new file has, it holds nothing but records of the system
  pub just : (key : RecordKey) (value : List ℕ) → contents (store_of images) key ≡ Some value →
      (counter_key ≡ key) ⊎ IsOfSystem s key value

-- what is told of an honest new device of so many pages, of a system of which this is known
abbrev pub IsToldOfNew : (RecordKey → ℕ) → ℕ → (State → Type 0) → MakingFault → Type 0
IsToldOfNew hash pages Known (makings.Device fault) = ⊤
IsToldOfNew hash pages Known (makings.Pool fault) = ⊤
IsToldOfNew hash pages Known makings.NoRoom = (s : State) × Known s × LacksRoomFor hash pages s
IsToldOfNew hash pages Known makings.NoMemory = ⊤
IsToldOfNew hash pages Known (makings.Wrong fault) = ⊤
IsToldOfNew hash pages Known makings.Failed = ⊥
