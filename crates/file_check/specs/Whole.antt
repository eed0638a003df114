-- A file that is that of one system, and the first thing that is wrong with one that is not: its structure, a record by
-- itself, all records together, a record beside them.
use Rattle.std.specs.Prelude.{◌≡◌, ℕ, List, Option, Some, None, ◌⊎◌}
use Rattle.file_walk.specs.Laws.{IsQuietFile}
use Rattle.record_walk.specs.declared.fault.WalkFault.{WalkFault}
use Rattle.record_walk.specs.Systems.{HasNoSystem, IsSystemOf}
use Rattle.record_walk.specs.Told.{IsFirstWrongQueue, IsToldOfSystem}
use Rattle.type_chains.specs.RecordOf.{record_of}
use Rattle.file_check.specs.declared.fault.CheckFault.TheVariants as faults
use Rattle.file_check.specs.Fault.{IsOfMachineToo, of_walk}
use Rattle.file_check.specs.Right.{IsFirstWrongThing, IsRightFile}
use Rattle.file_check.specs.Strays.{IsFirstStray}
use Rattle.file_check.specs.Words.{CheckFault, IsLayout, LAYOUT, Layout, Record, RecordKey, SpellsRecord, State, file_in, held_in}

-- at each key stands exactly the record that the system has there
pub record HasJust (held : RecordKey → Option (List ℕ)) (s : State) : Type 0 where
  pub stand : (key : RecordKey) (r : Record) → record_of s key ≡ Some r →
      (value : List ℕ) × (held key ≡ Some value) × SpellsRecord r key value
  pub others : (key : RecordKey) → record_of s key ≡ None → held key ≡ None

-- the file of a system in a layout
pub record IsFileIn (l : Layout) (hash : RecordKey → ℕ) (content : List (List ℕ)) (s : State) : Type 0 where
  -- these pages are its chain
  pub chain : List ℕ
  -- structure and records are right
  pub right : IsRightFile l hash content chain
  -- so it is sound and quiet, its directory and its counts are exact
  pub quiet : IsQuietFile hash (file_in l content) chain
  -- the system is lawful and not stopped, and no other has these records
  pub system : IsSystemOf (held_in l (file_in l content)) s
  pub just : HasJust (held_in l (file_in l content)) s

-- ---- the first thing that is wrong

-- what a walk tells of these records
abbrev pub IsWalkFault : (RecordKey → Option (List ℕ)) → CheckFault → Type 0
IsWalkFault held fault =
    (walked : WalkFault) × (fault ≡ of_walk walked) × IsToldOfSystem held walked

-- with all records together: each is right, and no system has them
pub record IsOfNoSystem (l : Layout) (hash : RecordKey → ℕ) (content : List (List ℕ)) : Type 0 where
  pub chain : List ℕ
  pub right : IsRightFile l hash content chain
  pub none : HasNoSystem (held_in l (file_in l content))

-- and this is the lowest id of which there is a Queue and no queue
pub record IsOfWrongQueue (l : Layout) (hash : RecordKey → ℕ) (content : List (List ℕ)) (queue : ℕ) : Type 0 where
  pub chain : List ℕ
  pub right : IsRightFile l hash content chain
  pub first : IsFirstWrongQueue (held_in l (file_in l content)) queue

-- with a record beside them: one system has them all but this, which is the first
pub record IsWrongBeside (l : Layout) (hash : RecordKey → ℕ) (content : List (List ℕ))
    (fault : CheckFault) : Type 0 where
  pub chain : List ℕ
  pub right : IsRightFile l hash content chain
  pub system : State
  pub stands : IsSystemOf (held_in l (file_in l content)) system
  pub stray : IsFirstStray system (file_in l content) chain fault

abbrev pub IsWrongTogether : Layout → (RecordKey → ℕ) → List (List ℕ) → CheckFault → Type 0
IsWrongTogether l hash content faults.WrongCounter = IsOfNoSystem l hash content
IsWrongTogether l hash content (faults.WrongQueue queue) = IsOfWrongQueue l hash content queue
IsWrongTogether l hash content (faults.Stray page kind queue number) =
    IsWrongBeside l hash content (faults.Stray page kind queue number)
IsWrongTogether l hash content fault = ⊥

-- with the file
abbrev pub IsWrongWith : Layout → (RecordKey → ℕ) → List (List ℕ) → CheckFault → Type 0
IsWrongWith l hash content fault = IsFirstWrongThing l hash content fault ⊎ IsWrongTogether l hash content fault

-- what is answered: it is that, unless the machine lacked something
abbrev pub IsToldIn : Layout → (RecordKey → ℕ) → List (List ℕ) → CheckFault → Type 0
IsToldIn l hash content fault = IsOfMachineToo fault ⊎ IsWrongWith l hash content fault

-- nothing is wrong with the file of a system
abbrev pub FileHasNoFault : Type 0
FileHasNoFault = (l : Layout) → IsLayout l → (hash : RecordKey → ℕ) (content : List (List ℕ)) (s : State)
    (fault : CheckFault) → IsFileIn l hash content s → IsWrongWith l hash content fault → ⊥

-- ---- today's layout

abbrev pub IsFileOf : (RecordKey → ℕ) → List (List ℕ) → State → Type 0
IsFileOf = IsFileIn LAYOUT

abbrev pub IsToldOf : (RecordKey → ℕ) → List (List ℕ) → CheckFault → Type 0
IsToldOf = IsToldIn LAYOUT
