-- What is printed where no line of a script is run, and where a file is made. docs/SCRIPTS.md, "Runs".
use Rattle.std.specs.Prelude.{◌≡◌, ◌⊎◌, ℕ, List, Option, Some, None, ⊤}
use Rattle.std.specs.declared.io.ErrorKind.{ErrorKind}
use Rattle.std.specs.declared.io.ErrorKind.TheVariants.{OutOfMemory}
use Rattle.numbers.specs.declared.faults.TheConstants.{DEVICE, NO_MEMORY}
use Rattle.page_device.specs.Device.{HasRisen}
use Rattle.file_check.specs.Fault.{number_of}
use Rattle.record_file.specs.Files.{IsNewFile}
use Rattle.msgq_cli.specs.Answers.{fault_text, made_text}
use Rattle.msgq_cli.specs.Outputs.{OutputState, Prints}
use Rattle.msgq_cli.specs.declared.script.ScriptError.{ScriptError}
use Rattle.msgq_cli.specs.declared.script.ScriptError.TheVariants as errors
use Rattle.msgq_cli.specs.declared.ending.Ending.{Ending}
use Rattle.msgq_cli.specs.declared.ending.Ending.TheVariants.{Done, Faulty, Failed, Unopened, WrongLine, WrongWord}

-- a run ends by a fault of this number that no line met
abbrev pub EndsBy : ℕ → Ending → Type 0
EndsBy fault Done = ⊥
EndsBy fault Faulty = ⊥
EndsBy fault (Failed failure) = failure.fault ≡ fault
EndsBy fault (Unopened refusal) = number_of refusal ≡ fault
EndsBy fault (WrongLine line) = ⊥
EndsBy fault (WrongWord word) = ⊥

-- a fault that no line met is printed, and nothing else
pub record IsFaultAlone (fault : ℕ) (old new : OutputState) (ending : Ending) : Type 0 where
  pub prints : Prints old new (fault_text fault)
  pub ends : EndsBy fault ending

-- ---- a script

-- the bytes of a reader, where they are known
abbrev pub AreKnownAs : Option (List ℕ) → List ℕ → Type 0
AreKnownAs None bytes = ⊤
AreKnownAs (Some known) bytes = bytes ≡ known

-- what is told where there is no script
abbrev pub IsRefused : ScriptError → OutputState → OutputState → Ending → Type 0
IsRefused (errors.WrongLine line mistake) old new ending = (ending ≡ WrongLine line) × (new ≡ old)
IsRefused errors.NoMemory old new ending = IsFaultAlone NO_MEMORY old new ending

-- the number that is printed where a text is not read: want of memory is told from the rest
abbrev pub read_fault_of : ErrorKind → ℕ
read_fault_of OutOfMemory = NO_MEMORY
read_fault_of _ = DEVICE

-- ---- a file

-- a file of so many pages is told to be made
pub record IsMade (pages : ℕ) (old new : OutputState) (ending : Ending) : Type 0 where
  pub prints : Prints old new (made_text pages)
  pub ends : ending ≡ Done

-- a file is told to be made, or one fault is told
abbrev pub IsMadeOrFault : ℕ → OutputState → OutputState → Ending → Type 0
IsMadeOrFault pages old new ending = IsMade pages old new ending ⊎ ((fault : ℕ) × IsFaultAlone fault old new ending)

-- the file was made; or there was no memory for its pages; or a transfer failed since the device had failed so often
abbrev pub Makes : ℕ → List (List ℕ) → ℕ → ℕ → OutputState → OutputState → Ending → Type 0
Makes pages content was faults old new ending =
    (IsMade pages old new ending × IsNewFile pages content)
    ⊎ IsFaultAlone NO_MEMORY old new ending
    ⊎ (HasRisen was faults × IsFaultAlone DEVICE old new ending)
