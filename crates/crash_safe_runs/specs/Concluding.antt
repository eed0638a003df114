-- How a run ends whose sync was put off: what it wrote is committed, or abandoned.
use Rattle.std.specs.Prelude.{◌≡◌, ℕ, Bool, true, false, not, ◌&&◌, Option, None, Some}
use Rattle.numbers.specs.declared.faults.TheConstants.{DEVICE}
use Rattle.deferred_sync.specs.Deferred.{Commits, IsLent, Start}
use Rattle.deferred_sync.specs.safe_device.Device.{DeviceState}
use Rattle.deferred_sync.specs.safe_device.Left.{Left}
use Rattle.msgq_cli.specs.Outputs.{OutputState}
use Rattle.msgq_cli.specs.declared.ending.Ending.{Ending}
use Rattle.msgq_cli.specs.declared.ending.Ending.TheVariants.{Done, Faulty, Failed, Unopened, WrongLine, WrongWord}
use Rattle.replays.specs.Replays.{EndsWith}

-- no fault was told but those of lines
abbrev pub is_well : Ending → Bool
is_well Done = true
is_well Faulty = true
is_well (Failed failure) = false
is_well (Unopened refusal) = false
is_well (WrongLine line) = false
is_well (WrongWord word) = false

-- whether what a run wrote is to be committed: it asked for its sync, all was told, and it ended well
abbrev pub is_to_commit : (due untold : Bool) → Ending → Bool
is_to_commit due untold ending = due && not untold && is_well ending

-- what is told where the device is synced, or a transfer has failed
abbrev pub fault_of : (succeeded : Bool) → Option ℕ
fault_of true = None
fault_of false = Some DEVICE

module _ {P : Type 0} (honest : Bool) (moment : P → ℕ) (left_since : P → ℕ → Left → Type 0)
    (may_leave : P → Left → Type 0) (start : Start) (left : ℕ → Left → Type 0) where
  -- nothing is committed, and nothing more is told
  pub record IsAbandoned (old new : DeviceState P) (said told : OutputState) (ending ended : Ending) : Type 0 where
    pub device : new ≡ old
    pub lent : IsLent honest moment left_since start left new
    pub prints : told ≡ said
    pub ends : ended ≡ ending

  -- what was written is committed, or that a transfer has failed is told
  pub record IsCommitted (old new : DeviceState P) (said told : OutputState) (ending ended : Ending) : Type 0 where
    pub succeeded : Bool
    pub commits : Commits honest moment left_since may_leave start left old new succeeded
    pub says : EndsWith (fault_of succeeded) said ending told ended

  abbrev pub Concludes : (to_commit : Bool) → (old new : DeviceState P) → (said told : OutputState) →
      (ending ended : Ending) → Type 0
  Concludes true old new said told ending ended = IsCommitted old new said told ending ended
  Concludes false old new said told ending ended = IsAbandoned old new said told ending ended
