-- What is known of a file behind a check, and behind the reading of its pages.
use Rattle.std.proofs.Common.{◌≡◌, ◌⊎◌, ◌<◌, ◌≤◌, ◌^◌, ◌∙◌, ℕ, Bool, true, false, List, Result, Ok, Err, IfOk, IfErr, inl, inr, refl, sym, ap, subst, arith}
use Rattle.std.specs.Prelude.{⊤}
use Rattle.bucket_page.specs.declared.record_key.RecordKey.{RecordKey}
use Rattle.file_check.specs.declared.fault.CheckFault.{CheckFault}
use Rattle.file_check.specs.declared.fault.CheckFault.TheVariants as checks
use Rattle.file_check.specs.Fault.{IsOfMachineToo}
use Rattle.file_check.specs.Records.{HasCheckCause}
use Rattle.file_check.specs.Whole.{IsFileOf, IsToldOf}
use Rattle.file_check.proofs.Today.{file_has_no_fault}
use Rattle.file_walk.specs.declared.fault.StructureFault.{StructureFault}
use Rattle.file_walk.specs.declared.fault.StructureFault.TheVariants as structures
use Rattle.file_walk.specs.Order.{IsOfMachine}
use Rattle.lone_access.proofs.KeepingLemmas.{risen_since}
use Rattle.page_device.specs.Device.{HasRisen}
use Rattle.queue_model.specs.State.{State}
use Rattle.migration.specs.declared.salvage_fault.SalvageFault.{SalvageFault}
use Rattle.migration.specs.declared.salvage_fault.SalvageFault.TheVariants as faults
use Rattle.migration.specs.declared.salvaged.Rescue.{Rescue}
use Rattle.migration.specs.Causes.{HasSalvageCause, MayNotSalvage}
use Rattle.migration.specs.Gathering.{HasRescueCause, MayNotRescue, wants_memory}
use Rattle.migration.specs.Readable.{IsToldOfPages}
use Rattle.migration.specs.Rescues.{IsOfNone, IsRescuedFrom, IsWhole}

-- the check lacked memory, or a transfer failed
lacked : (fault : StructureFault) → IsOfMachine fault → (fault ≡ structures.NoMemory) ⊎ (fault ≡ structures.Device)
lacked structures.Device is = inr refl
lacked structures.NoMemory is = inl refl
lacked fault is = absurd is

lacked_too : (fault : CheckFault) → IsOfMachineToo fault →
    (fault ≡ checks.Structure structures.NoMemory) ⊎ (fault ≡ checks.Structure structures.Device)
lacked_too (checks.Structure fault) is = elim (lacked fault is) [
  | inl memory ↦ inl (ap checks.Structure memory)
  | inr device ↦ inr (ap checks.Structure device)
]
lacked_too fault is = absurd is

-- where it was neither, what was told is wrong with the file
refused : (hash : RecordKey → ℕ) (content : List (List ℕ)) (fault : CheckFault) (Failed : Type 0) →
    IsToldOf hash content fault → wants_memory fault ≡ false →
    (fault ≡ checks.Structure structures.Device → Failed) → IsOfNone hash content Failed
refused hash content fault Failed told memory failed = λ s file. elim told [
  | inr wrong ↦ absurd (file_has_no_fault hash content s fault file wrong)
  | inl machine ↦ elim (lacked_too fault machine) [
    | inl is ↦ (let lacks : wants_memory fault ≡ true = ap wants_memory is in absurd cc)
    | inr is ↦ failed is
  ]
]

told_on : (content : List (List ℕ)) (Part Failed None : Type 0) → (Part → Failed) → None → (fault : SalvageFault) →
    IsToldOfPages content Part ⊤ fault → IsToldOfPages content Failed None fault
told_on content Part Failed None part none faults.Device told = tt
told_on content Part Failed None part none faults.NoPage told = told
told_on content Part Failed None part none faults.Unread told = λ n readable. part (told n readable)
told_on content Part Failed None part none faults.BadVersion told = told
told_on content Part Failed None part none faults.NoMemory told = tt
told_on content Part Failed None part none faults.Unlawful told = none
told_on content Part Failed None part none (faults.New fault) told = tt

-- what can be read of a file that is refused
rescued_of : (hash : RecordKey → ℕ) (content : List (List ℕ)) (Part Failed : Type 0)
    (found : Result Rescue SalvageFault) → (Part → Failed) → IsOfNone hash content Failed →
    IfErr found (IsToldOfPages content Part ⊤) → IsRescuedFrom hash content Failed found
rescued_of hash content Part Failed (Ok rescue) part none told =
    record { whole = λ s file. inr (none s file); told = tt }
rescued_of hash content Part Failed (Err fault) part none told = record {
  whole = λ s file. tt;
  told = told_on content Part Failed (IsOfNone hash content Failed) part none fault told;
}

still : (a b d : ℕ) → b ≤ d → d < 2 ^ 64 → HasRisen a b → HasRisen a d
still a b d later fits (inl rose) = inl (omega (arith, rose, later))
still a b d later fits (inr most) = inr (omega (arith, most, later, fits))

whole_of : (hash : RecordKey → ℕ) (content : List (List ℕ)) (system : State) (Failed : Type 0)
    (found : Result Rescue SalvageFault) → IsFileOf hash content system →
    IfOk found (IsWhole (record system { stopped = false })) → IfErr found (λ fault. fault ≡ faults.NoMemory) →
    IsRescuedFrom hash content Failed found
whole_of hash content system Failed (Ok rescue) its whole none = record {
  whole = λ s file.
      let same : s ≡ system = its.system.only s file.system.has in
      let state : record system { stopped = false } ≡ s =
      ap (λ (stopped : Bool). record system { stopped = stopped }) (sym its.system.has.running) ∙ sym same in
      inl (subst (λ (t : State). IsWhole t rescue) state whole);
  told = tt;
}
whole_of hash content system Failed (Err fault) its whole none = record {
  whole = λ s file. tt;
  told = subst (IsToldOfPages content Failed (IsOfNone hash content Failed)) (sym none) tt;
}

-- of counts of failed transfers at the beginning, behind the check, and behind the reading
module _ (hash : RecordKey → ℕ) (content : List (List ℕ)) (checked : Result State CheckFault)
    (found : Result Rescue SalvageFault) where
  pub rescued_refused : (content' : List (List ℕ)) (fault : CheckFault) (a b d : ℕ) → checked ≡ Err fault →
      IfErr checked (IsToldOf hash content) → HasCheckCause a b checked → wants_memory fault ≡ false →
      content' ≡ content → b ≤ d → d < 2 ^ 64 → IfErr found (IsToldOfPages content' (HasRisen b d) ⊤) →
      IsRescuedFrom hash content (HasRisen a d) found
  rescued_refused content' fault a b d is refusal cause memory same later fits told =
      let told_it = subst (λ (r : Result State CheckFault). IfErr r (IsToldOf hash content)) is refusal in
      let caused = subst (λ (r : Result State CheckFault). HasCheckCause a b r) is cause in
      let failed : fault ≡ checks.Structure structures.Device → HasRisen a d =
      λ device. still a b d later fits (caused.failed (ap Err device)) in
      rescued_of hash content (HasRisen b d) (HasRisen a d) found (risen_since a b d cause.later)
      (refused hash content fault (HasRisen a d) told_it memory failed)
      (subst (λ (pages : List (List ℕ)). IfErr found (IsToldOfPages pages (HasRisen b d) ⊤)) same told)

  -- a whole system of the file of a system
  pub rescued_whole : (system : State) (Failed : Type 0) → checked ≡ Ok system → IfOk checked (IsFileOf hash content) →
      IfOk found (IsWhole (record system { stopped = false })) → IfErr found (λ fault. fault ≡ faults.NoMemory) →
      IsRescuedFrom hash content Failed found
  rescued_whole system Failed is right whole none =
      whole_of hash content system Failed found
      (subst (λ (r : Result State CheckFault). IfOk r (IsFileOf hash content)) is right) whole none

-- it is taken apart and put together
pub rescued_still : (hash : RecordKey → ℕ) (content : List (List ℕ)) (Failed : Type 0)
    (found : Result Rescue SalvageFault) (rescue : Rescue) → found ≡ Ok rescue →
    IsRescuedFrom hash content Failed found → IsRescuedFrom hash content Failed (Ok rescue)
rescued_still hash content Failed found rescue is =
    subst (λ (r : Result Rescue SalvageFault). IsRescuedFrom hash content Failed r) is

-- ---- causes

pub whole_cause : (old new : ℕ) (found : Result Rescue SalvageFault) → old ≤ new →
    IfErr found (λ fault. fault ≡ faults.NoMemory) → HasRescueCause old new found
whole_cause old new (Ok rescue) later none = record { later = later; failed = tt }
whole_cause old new (Err fault) later none =
    record { later = later; failed = subst (MayNotRescue (HasRisen old new)) (sym none) tt }

pub cause_since : (a b d : ℕ) (found : Result Rescue SalvageFault) → a ≤ b → HasRescueCause b d found →
    HasRescueCause a d found
cause_since a b d (Ok rescue) less cause = record { later = omega (arith, less, cause.later); failed = tt }
cause_since a b d (Err fault) less cause =
    record { later = omega (arith, less, cause.later); failed = since fault cause.failed }
  where
    since : (fault : SalvageFault) → MayNotRescue (HasRisen b d) fault → MayNotRescue (HasRisen a d) fault
    since faults.Device risen = risen_since a b d less risen
    since faults.NoPage may = tt
    since faults.Unread may = tt
    since faults.BadVersion may = tt
    since faults.NoMemory may = tt
    since faults.Unlawful may = tt
    since (faults.New fault) may = absurd may

-- the new device was not touched
pub cause_old : {T : Type 0} (old old' new : ℕ) (fault : SalvageFault) (found : Result Rescue SalvageFault) →
    found ≡ Err fault → HasRescueCause old old' found → HasSalvageCause {T = T} old old' new new (Err fault)
cause_old old old' new fault found is cause =
    let caused = subst (λ (r : Result Rescue SalvageFault). HasRescueCause old old' r) is cause in
    record { older = cause.later; newer = omega arith; failed = tells fault caused.failed }
  where
    tells : (fault : SalvageFault) → MayNotRescue (HasRisen old old') fault →
        MayNotSalvage (HasRisen old old') (HasRisen new new) fault
    tells faults.Device risen = risen
    tells faults.NoPage may = tt
    tells faults.Unread may = tt
    tells faults.BadVersion may = tt
    tells faults.NoMemory may = tt
    tells faults.Unlawful may = tt
    tells (faults.New fault) may = absurd may
