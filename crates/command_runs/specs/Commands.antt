-- A command of a shell over a file and its journal. docs/SHELL.md, "What a command asks".
use Rattle.std.specs.Prelude.{◌≡◌, ℕ, Bool, true, false, IsTrue, is_ok, Result, Ok, Err}
use Rattle.bucket_page.specs.Pseudokeys.{sha_key}
use Rattle.command_runs.specs.Running.{IsPrinted, Seen}
use Rattle.command_runs.specs.declared.error.CommandError.{CommandError}
use Rattle.command_runs.specs.declared.error.CommandError.TheVariants.{Unclosed}
use Rattle.deferred_sync.specs.Deferred.{Commits, IsLent, Start}
use Rattle.deferred_sync.specs.safe_device.Device.{DeviceState}
use Rattle.deferred_sync.specs.safe_device.Left.{Left}
use Rattle.interleavings.specs.LoneKernelWords.{Caller, IsFileOf, State, restarted}
use Rattle.interleavings.specs.interleaving_core.declared.fault.CloseFault.TheVariants.{Device}
use Rattle.queue_commands.specs.Commands.{AsksAs}
use Rattle.queue_commands.specs.declared.request.Request.{Request}
use Rattle.deferred_sync.specs.Crash.{LeavesBeforeOrAfter, Pages}

-- from the one system whose file there was the text of the command was printed, and these pages are the file of the
-- system that its calls left
pub record IsFileAfterCommand (c : Caller) (r : Request) (before : Pages) (seen : Seen) (pages : Pages) : Type 0 where
  pub system : State
  pub file : IsFileOf sha_key before system
  pub printed : IsPrinted (AsksAs c r system) seen (λ t. IsFileOf sha_key pages (restarted t))

-- only where its text was printed
abbrev pub IsFileOfCommand : Caller → Request → (before : Pages) → Seen → Result Unit CommandError → Pages → Type 0
IsFileOfCommand c r before seen (Ok done) pages = IsFileAfterCommand c r before seen pages
IsFileOfCommand c r before seen (Err (Unclosed fault)) pages = IsFileAfterCommand c r before seen pages
IsFileOfCommand c r before seen (Err error) pages = ⊥

module _ {P : Type 0} (honest : Bool) (moment : P → ℕ) (left_since : P → ℕ → Left → Type 0)
    (may_leave : P → Left → Type 0) where
  -- The pages of before are the file of one system, or refused; those of after are that of the system which the calls
  -- of the command left, whose text was printed.
  abbrev pub AsksOver : (began : ℕ) → (ℕ → Left → Type 0) → Caller → Request → (before : Pages) → Seen →
      Result Unit CommandError → P → Type 0
  AsksOver began left c r before seen came pair = IsTrue honest →
      LeavesBeforeOrAfter moment left_since may_leave began left before (IsFileOfCommand c r before seen came)
      (is_ok came ≡ true) pair

-- ---- how a command ends whose sync was put off

-- its text was printed, and the device is synced, or a transfer has failed
abbrev pub told_of : (succeeded : Bool) → Result Unit CommandError
told_of true = Ok tt
told_of false = Err (Unclosed Device)

module _ {P : Type 0} (honest : Bool) (moment : P → ℕ) (left_since : P → ℕ → Left → Type 0)
    (may_leave : P → Left → Type 0) (start : Start) (left : ℕ → Left → Type 0) where
  -- nothing is committed
  pub record IsGivenBack (old new : DeviceState P) (came ended : Result Unit CommandError) : Type 0 where
    pub device : new ≡ old
    pub lent : IsLent honest moment left_since start left new
    pub ends : ended ≡ came

  -- what was written is committed, or a transfer has failed
  pub record IsBrought (old new : DeviceState P) (ended : Result Unit CommandError) : Type 0 where
    pub succeeded : Bool
    pub commits : Commits honest moment left_since may_leave start left old new succeeded
    pub ends : ended ≡ told_of succeeded

  abbrev pub ConcludesAs : (to_commit : Bool) → (old new : DeviceState P) → (came ended : Result Unit CommandError) →
      Type 0
  ConcludesAs true old new came ended = IsBrought old new ended
  ConcludesAs false old new came ended = IsGivenBack old new came ended
