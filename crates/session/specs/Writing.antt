-- The pages of a session that have changed are written to another device. docs/FORMAT.md, "Pages".
use Rattle.std.specs.Prelude.{ℕ, ◌≡◌, ◌≤◌, Bool, false, IsTrue, List, Result, Ok, IfErr, OnOk, length}
use Rattle.page_device.specs.Device.{HasRisen}
use Rattle.interleavings.specs.LoneKernelWords.{State}
use Rattle.session.specs.Making.{SessionState, caller_of}
use Rattle.session.specs.Session.{AreItsPages, HasFailed, Holds, pages_of, saved_of}
use Rattle.session.specs.declared.writing.Unwritten.{Unwritten}
use Rattle.session.specs.declared.writing.Unwritten.TheVariants.{Device, Session}

-- these are all pages of the session as they are to be written, which are as they were, and it holds the same system
pub record HasWritten (s : State) (content : List (List ℕ)) (old new : SessionState) : Type 0 where
  pub its : AreItsPages content new
  pub holds : Holds s new
  pub images : new.pool.images ≡ old.pool.images

-- a transfer of the device failed, or one of the session's own
abbrev pub FailsToWrite : Unwritten → (old new : SessionState) → (was faults : ℕ) → Type 0
FailsToWrite Device old new was faults = HasRisen was faults
FailsToWrite Session old new was faults = (s : State) → Holds s old → HasFailed old new

-- each page that may have changed since the pages were saved is written, and it is told whether there was one
pub record WritesChanged {E : Type 0} (content : E → List (List ℕ)) (is_honest : E → Bool) (fault_count : E → ℕ)
    (result : Result Bool Unwritten) (old new : SessionState) (device then : E) : Type 0 where
  -- an honest device that had the pages as they were saved has them as they are to be written
  pub written : IsTrue (is_honest device) → content device ≡ saved_of old → (s : State) → Holds s old →
      OnOk result (HasWritten s (content then) old new)
  -- and whatever it gives
  pub none : result ≡ Ok false → (new ≡ old) × (then ≡ device)
  pub cause : IfErr result (λ fault. FailsToWrite fault old new (fault_count device) (fault_count then))
  pub as_many : length (content then) ≡ length (content device)
  pub honest : is_honest then ≡ is_honest device
  pub later : fault_count device ≤ fault_count then
  -- the session keeps its caller, the number of its pages, and those that were saved
  pub caller : caller_of new ≡ caller_of old
  pub many : pages_of new ≡ pages_of old
  pub saved : saved_of new ≡ saved_of old
