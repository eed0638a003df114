-- What a command comes to that is run on the file of a device. docs/SHELL.md, "What a command asks".
use Rattle.std.specs.Prelude.{◌≡◌, ◌≢◌, ◌⊎◌, ℕ, List, Option, ⊤, Result, Ok, Err, length}
use Rattle.std.specs.Io.KnownBytes.{Appends}
use Rattle.page_device.specs.Device.{HasRisen}
use Rattle.bucket_page.specs.Pseudokeys.{sha_key}
use Rattle.interleavings.specs.LoneKernelWords.{Caller, IsFileOf, State, restarted}
use Rattle.interleavings.specs.interleaving_core.Beginning.{MayRefuseUnchecked}
use Rattle.interleavings.specs.interleaving_core.Fault.{device_failed}
use Rattle.interleavings.specs.interleaving_core.declared.fault.CloseFault.TheVariants as closes
use Rattle.interleavings.specs.interleaving_core.declared.fault.OpenFault.{OpenFault}
use Rattle.interleavings.specs.interleaving_core.declared.fault.OpenFault.TheVariants.{TooFewFrames}
use Rattle.queue_commands.specs.Asking.{Asking}
use Rattle.queue_commands.specs.Commands.{AsksAs}
use Rattle.queue_commands.specs.declared.request.Request.{Request}
use Rattle.command_runs.specs.Memory.{MayNotDo}
use Rattle.command_runs.specs.Asking.{Pages}
use Rattle.command_runs.specs.declared.error.CommandError.{CommandError}
use Rattle.command_runs.specs.declared.error.CommandError.TheVariants.{Unclosed, Unopened, Unprinted}

-- what the output holds before and after, and how often the device had failed, and has
pub record Seen : Type 0 where
  pub old : Option (List ℕ)
  pub new : Option (List ℕ)
  pub was : ℕ
  pub faults : ℕ

abbrev pub seen : Option (List ℕ) → Option (List ℕ) → ℕ → ℕ → Seen
seen old new was faults = record { old = old; new = new; was = was; faults = faults }

-- the text of a command was printed
pub record IsPrinted (Is : Asking (List ℕ)) (seen : Seen) (Holds : State → Type 0) : Type 0 where
  pub text : List ℕ
  pub system : State
  pub is : Is (Ok text) system
  pub printed : Appends seen.old seen.new text
  pub held : Holds system

-- how a command ends on the file of a device that had these pages, and what its pages are then
abbrev pub EndsAs : Caller → Asking (List ℕ) → (content left : Pages) → Seen → Result Unit CommandError → Type 0
-- the text is printed, and the file is one of the system that the command leaves, with as many pages
EndsAs c Is content left seen (Ok done) =
    IsPrinted Is seen (λ t. IsFileOf sha_key left (restarted t)) × (length left ≡ length content)
-- the text was to be printed, and the output refused it
EndsAs c Is content left seen (Err (Unprinted error)) = (text : List ℕ) × (t : State) × Is (Ok text) t
-- the text is printed, and then the device failed
EndsAs c Is content left seen (Err (Unclosed closes.Device)) =
    HasRisen seen.was seen.faults × IsPrinted Is seen (λ t. ⊤)
-- nothing is printed
EndsAs c Is content left seen (Err error) = MayNotDo c Is content error × (seen.new ≡ seen.old)

-- so it is unless the text was printed, and the device written
abbrev pub IfUnwritten : Type 0 → Result Unit CommandError → Type 0
IfUnwritten Is (Ok done) = ⊤
IfUnwritten Is (Err (Unclosed fault)) = ⊤
IfUnwritten Is (Err error) = Is

-- so it is where the output is told to have refused the text
abbrev pub IfUnprinted : Type 0 → Result Unit CommandError → Type 0
IfUnprinted Is (Err (Unprinted error)) = Is
IfUnprinted Is came = ⊤

-- ---- the end of a command that was asked

-- these pages are the file of a system, and as many as there were
pub record HasFileOf (s : State) (content left : Pages) : Type 0 where
  pub file : IsFileOf sha_key left (restarted s)
  pub pages : length left ≡ length content

-- its text is printed, and then the file of the system is on the device; unless the output refused it, or the device
-- failed
abbrev pub EndsWith : List ℕ → State → (content left : Pages) → Seen → Result Unit CommandError → Type 0
EndsWith text s content left seen (Ok done) = Appends seen.old seen.new text × HasFileOf s content left
EndsWith text s content left seen (Err (Unprinted error)) = ⊤
EndsWith text s content left seen (Err (Unclosed closes.Device)) =
    HasRisen seen.was seen.faults × Appends seen.old seen.new text
EndsWith text s content left seen (Err error) = ⊥

-- ---- a command on a file

-- a file is refused by the first thing that is wrong with it, unless there is no memory or the device failed
pub record IsUnopened (content : Pages) (seen : Seen) (came : Result Unit CommandError) : Type 0 where
  pub fault : OpenFault
  pub told : came ≡ Err (Unopened fault)
  pub framed : fault ≢ TooFewFrames
  pub cause : MayRefuseUnchecked sha_key content fault
  pub failed : fault ≡ device_failed → HasRisen seen.was seen.faults
  pub kept : seen.new ≡ seen.old

-- it is run from the one system whose file it is
pub record RunsFrom (c : Caller) (r : Request) (content left : Pages) (seen : Seen) (came : Result Unit CommandError)
    : Type 0 where
  pub system : State
  pub file : IsFileOf sha_key content system
  pub ends : EndsAs c (AsksAs c r system) content left seen came

abbrev pub RunsOn : Caller → Request → Pages → Pages → Seen → Result Unit CommandError → Type 0
RunsOn c r content left seen came = RunsFrom c r content left seen came ⊎ IsUnopened content seen came
