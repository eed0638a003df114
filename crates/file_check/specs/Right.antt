-- A file whose structure is right and each of whose records is right by itself; and the first thing that is wrong.
use Rattle.std.specs.Prelude.{ℕ, List}
use Rattle.file_walk.specs.Laws.{IsQuietFile}
use Rattle.file_walk.specs.Structure as walk
use Rattle.file_check.specs.declared.fault.CheckFault.TheVariants as faults
use Rattle.file_check.specs.Words.{CheckFault, IsLayout, IsRightStructureIn, IsStructureIn, Layout, RecordKey, Store, file_in}
use Rattle.file_check.specs.Records.{AreRightRecordsIn, IsFirstWrongRecord}

-- these pages are its chain
pub record IsRightFile (l : Layout) (hash : RecordKey → ℕ) (content : List (List ℕ)) (ns : List ℕ) : Type 0 where
  pub structure : IsRightStructureIn l content ns
  pub records : AreRightRecordsIn l hash (file_in l content) ns

-- and this is what is kept of it
pub record IsRightFileOf (l : Layout) (hash : RecordKey → ℕ) (content : List (List ℕ)) (outline : Store)
    (ns : List ℕ) : Type 0 where
  pub structure : IsStructureIn l content outline ns
  pub records : AreRightRecordsIn l hash (file_in l content) ns

-- the structure is right, and this is wrong with the first record that is wrong
pub record IsWrongAmongRecords (l : Layout) (hash : RecordKey → ℕ) (content : List (List ℕ))
    (fault : CheckFault) : Type 0 where
  pub chain : List ℕ
  pub structure : IsRightStructureIn l content chain
  pub wrong : IsFirstWrongRecord l hash (file_in l content) chain fault

-- what is wrong with the structure, or else with the first record that is wrong
abbrev pub IsFirstWrongThing : Layout → (RecordKey → ℕ) → List (List ℕ) → CheckFault → Type 0
IsFirstWrongThing l hash content (faults.Structure fault) = walk.IsFirstWrongThingIn l content fault
IsFirstWrongThing l hash content (faults.Misplaced page kind queue number) =
    IsWrongAmongRecords l hash content (faults.Misplaced page kind queue number)
IsFirstWrongThing l hash content (faults.BadRecord page kind queue number) =
    IsWrongAmongRecords l hash content (faults.BadRecord page kind queue number)
IsFirstWrongThing l hash content fault = ⊥

-- ---- laws

-- a right file is sound and quiet, its directory is exact, and this is its chain
abbrev pub RightIsSound : Type 0
RightIsSound = (l : Layout) → IsLayout l → (hash : RecordKey → ℕ) (content : List (List ℕ)) (ns : List ℕ) →
    IsRightFile l hash content ns →
    IsQuietFile hash (file_in l content) ns

-- nothing is wrong with a right file
abbrev pub RightHasNoFault : Type 0
RightHasNoFault = (l : Layout) → IsLayout l → (hash : RecordKey → ℕ) (content : List (List ℕ)) (ns : List ℕ)
    (fault : CheckFault) → IsRightFile l hash content ns → IsFirstWrongThing l hash content fault → ⊥
