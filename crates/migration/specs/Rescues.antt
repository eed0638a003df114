-- What a salvage makes of a file on an honest device (docs/SCRIPTS.md, "What is salvaged").
use Rattle.std.specs.Prelude.{◌≡◌, ◌⊎◌, ℕ, false, List, [], Result, Ok, Err, IfOk, IfErr, ⊤}
use Rattle.bucket_page.specs.declared.record_key.RecordKey.{RecordKey}
use Rattle.file_check.specs.Whole.{IsFileOf}
use Rattle.queue_model.specs.State.{State}
use Rattle.migration.specs.Copying.{IsMadeOf}
use Rattle.migration.specs.Rooms.{IsToldOfNew}
use Rattle.migration.specs.declared.losses.Losses.{Losses}
use Rattle.migration.specs.declared.salvage_fault.SalvageFault.{SalvageFault}
use Rattle.migration.specs.declared.salvage_fault.SalvageFault.TheVariants as faults
use Rattle.migration.specs.declared.salvaged.Rescue.{Rescue}
use Rattle.migration.specs.Readable.{IsToldOfPages}

-- nothing was left out, and nothing was put in the place of what is lost
pub record HasNoLosses (losses : Losses) : Type 0 where
  pub unread : losses.unread.items ≡ []
  pub wrong : losses.wrong ≡ 0
  pub twice : losses.twice ≡ 0
  pub beyond : losses.beyond ≡ 0
  pub made : losses.made.items ≡ []
  pub keyless : losses.keyless ≡ 0
  pub counter : losses.has_no_counter ≡ false

-- all of the system is there, and nothing is lost
pub record IsWhole (s : State) (rescue : Rescue) : Type 0 where
  pub system : rescue.system ≡ s
  pub losses : HasNoLosses rescue.losses

-- it is the file of no system, but where a transfer failed
abbrev pub IsOfNone : (RecordKey → ℕ) → List (List ℕ) → Type 0 → Type 0
IsOfNone hash content Failed = (s : State) → IsFileOf hash content s → Failed

-- what comes of the file, of which a transfer may have failed
pub record IsRescuedFrom (hash : RecordKey → ℕ) (content : List (List ℕ)) (Failed : Type 0)
    (found : Result Rescue SalvageFault) : Type 0 where
  -- of the file of a system that system
  pub whole : (s : State) → IsFileOf hash content s → IfOk found (λ rescue. IsWhole s rescue ⊎ Failed)
  -- and what is told of one is so
  pub told : IfErr found (IsToldOfPages content Failed (IsOfNone hash content Failed))

-- what is put into the new file: of the file of a system that system
abbrev pub IsFoundIn : (RecordKey → ℕ) → List (List ℕ) → (Honest Failed : Type 0) → State → Type 0
IsFoundIn hash content Honest Failed s = Honest → (t : State) → IsFileOf hash content t → (s ≡ t) ⊎ Failed

abbrev pub IsToldOfSalvage : (RecordKey → ℕ) → ℕ → (Found : State → Type 0) → SalvageFault → Type 0
IsToldOfSalvage hash pages Found (faults.New fault) = IsToldOfNew hash pages Found fault
IsToldOfSalvage hash pages Found fault = ⊤

-- the new file is that of the system; or it is told that a record of what was found has no room, where it is so
abbrev pub IsMadeOrTold : (RecordKey → ℕ) → ℕ → List (List ℕ) → (Found : State → Type 0) →
    Result Rescue SalvageFault → Type 0
IsMadeOrTold hash pages content Found (Ok rescue) = IsMadeOf hash pages content rescue.system
IsMadeOrTold hash pages content Found (Err fault) = IsToldOfSalvage hash pages Found fault
