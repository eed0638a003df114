-- A file is recovered, transfer by transfer. docs/FORMAT.md, "The journal".
use Rattle.std.specs.Prelude.{ℕ, ◌≡◌, ◌⊎◌, Bool, true, List, Option, Some, None}
use Rattle.pair_transfers.specs.RecoveryTransfers.{Asks, Refuses, Tells, begins_calls, recovers_at, written_now}
use Rattle.pair_transfers.specs.Transfers.{laid_over}
use Rattle.pair_transfers.specs.declared.recovery.RecoverFault.{RecoverFault}
use Rattle.pair_transfers.specs.declared.recovery.RecoverFault.TheVariants.{Device, Foreign, OtherVersion}
use Rattle.pair_transfers.specs.declared.recovering.Recovering.{Recovering}
use Rattle.pair_transfers.specs.declared.transfers.Transfer.{Transfer}
use Rattle.msgq_c.specs.HeldRecovery.{RecoveryUnderWay}
use Rattle.msgq_c.specs.Saving.{order_of, standing_of}
use Rattle.msgq_c.specs.declared.codes.TheConstants.{DONE, FAILED, IN_USE, NO_MEMORY, NO_SESSION, OTHER_FILE, OTHER_VERSION}
use Rattle.msgq_c.specs.declared.recovered.Recovered.{Recovered}
use Rattle.msgq_c.specs.declared.saving.Order.{Order}
use Rattle.msgq_c.specs.declared.saving.Stands.{Stands}

abbrev of : Recovering → Recovered
of recovering = record { recovering = recovering }

-- a handle that has no recovery is told so, and stays
abbrev OfRecovery : (Recovered → ℕ → RecoveryUnderWay → Type 0) → ℕ → (old after : RecoveryUnderWay) → Type 0
OfRecovery Does code None after = (code ≡ NO_SESSION) × (after ≡ None)
OfRecovery Does code (Some old) after = Does old code after

-- one of files of so many bytes is begun in a handle that has none
abbrev pub BeginsRecovery : (journal file : ℕ) → ℕ → (old after : RecoveryUnderWay) → Type 0
BeginsRecovery journal file code None after =
    ((code ≡ DONE) × (after ≡ Some (of (recovers_at journal file)))) ⊎ ((code ≡ NO_MEMORY) × (after ≡ None))
BeginsRecovery journal file code (Some old) after = (code ≡ IN_USE) × (after ≡ Some old)

abbrev pub refusal_code : RecoverFault → ℕ
refusal_code Device = FAILED
refusal_code Foreign = OTHER_FILE
refusal_code OtherVersion = OTHER_VERSION

-- the next transfer was told, and the bytes that are to be written stand first; or the journal is refused, or a
-- transfer has failed
pub record HasAskedNext (order : Order) (room bytes : List ℕ) (code : ℕ) (old : Recovered)
    (after : RecoveryUnderWay) : Type 0 where
  pub new : Recovered
  pub after_is : after ≡ Some new
  pub asked : ((told : Option Transfer) × (code ≡ DONE) × Asks old.recovering new.recovering told
      × (order ≡ order_of told) × (bytes ≡ laid_over (written_now new.recovering) room))
      ⊎ ((fault : RecoverFault) × (code ≡ refusal_code fault) × Refuses old.recovering fault)

abbrev pub AsksRecovery : Order → (room bytes : List ℕ) → ℕ → (old after : RecoveryUnderWay) → Type 0
AsksRecovery order room bytes =
    OfRecovery (λ old code after. HasAskedNext order room bytes code old after)

-- it was told how a transfer went, or one has failed
pub record HasToldOf (read : List ℕ) (done : Bool) (code : ℕ) (old : Recovered) (after : RecoveryUnderWay) :
    Type 0 where
  pub new : Recovered
  pub after_is : after ≡ Some new
  pub told : ((code ≡ DONE) × (done ≡ true) × Tells read old.recovering new.recovering) ⊎ (code ≡ FAILED)

abbrev pub TellsRecovery : (read : List ℕ) → Bool → ℕ → (old after : RecoveryUnderWay) → Type 0
TellsRecovery read done = OfRecovery (λ old code after. HasToldOf read done code old after)

abbrev pub BeginsCalls : ℕ → (old after : RecoveryUnderWay) → Type 0
BeginsCalls = OfRecovery (λ old code after. (code ≡ DONE) × (after ≡ Some (of (begins_calls old.recovering))))

-- what is known of the journal
abbrev pub TellsStands : Stands → (sum : List ℕ) → ℕ → (old after : RecoveryUnderWay) → Type 0
TellsStands stands sum = OfRecovery (λ old code after.
    (code ≡ DONE) × (after ≡ Some old) × (standing_of stands sum ≡ old.recovering.journal))

abbrev pub EndsRecovery : ℕ → (old after : RecoveryUnderWay) → Type 0
EndsRecovery = OfRecovery (λ old code after. (code ≡ DONE) × (after ≡ None))
