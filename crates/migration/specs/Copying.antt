-- A file, and a new one of the same system (docs/FORMAT.md).
use Rattle.std.specs.Prelude.{◌≡◌, ℕ, List, length}
use Rattle.bucket_page.specs.declared.record_key.RecordKey.{RecordKey}
use Rattle.directory.specs.declared.layout.Layout.{Layout}
use Rattle.file_check.specs.Whole.{IsFileIn, IsFileOf, IsToldIn}
use Rattle.queue_model.specs.State.{State}
use Rattle.migration.specs.Rooms.{IsToldOfNew}
use Rattle.migration.specs.declared.fault.CopyFault.{CopyFault}
use Rattle.migration.specs.declared.fault.CopyFault.TheVariants as faults

-- a file of today's layout, of so many pages, is that of the system
pub record IsMadeOf (hash : RecordKey → ℕ) (pages : ℕ) (content : List (List ℕ)) (s : State) : Type 0 where
  pub file : IsFileOf hash content s
  pub number : length content ≡ pages

-- both are files of the system, as the check of either says; the older one has this layout
pub record IsCopied (l : Layout) (hash : RecordKey → ℕ) (pages : ℕ) (old new : List (List ℕ))
    (s : State) : Type 0 where
  pub older : IsFileIn l hash old s
  pub made : IsMadeOf hash pages new s

-- what is told of the old file is the first thing that is wrong with it, unless the machine lacked something; and of
-- the new one that a record of the system has no room, where it is so
abbrev pub IsToldOfCopy : Layout → (RecordKey → ℕ) → ℕ → List (List ℕ) → (Older Newer : Type 0) → CopyFault → Type 0
IsToldOfCopy l hash pages old Older Newer (faults.Old fault) = Older → IsToldIn l hash old fault
IsToldOfCopy l hash pages old Older Newer (faults.New fault) =
    Newer → IsToldOfNew hash pages (λ (s : State). Older → IsFileIn l hash old s) fault
