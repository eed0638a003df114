-- A command that is asked of a file in memory. docs/SHELL.md, "What a command asks".
use Rattle.std.specs.Prelude.{◌≡◌, ◌⊎◌, ℕ, List, ⊤, Result, Ok, Err, length}
use Rattle.bucket_page.specs.Pseudokeys.{sha_key}
use Rattle.interleavings.specs.LoneKernelWords.{Caller, IsFileOf, State}
use Rattle.interleavings.specs.interleaving_core.declared.fault.OpenFault.{OpenFault}
use Rattle.session.specs.Session.{Holds, MayNotOpen, pages_of, saved_of}
use Rattle.queue_commands.specs.Asking.{Asking, Refuses}
use Rattle.queue_commands.specs.Coming.{IsUnanswered}
use Rattle.queue_commands.specs.Commands.{AsksAs}
use Rattle.queue_commands.specs.declared.request.Request.{Request}
use Rattle.command_runs.specs.Asking.{MayLack, Pages}
use Rattle.command_runs.specs.declared.error.CommandError.{CommandError}
use Rattle.command_runs.specs.declared.error.CommandError.TheVariants.{NoMemory, Refused, Unanswered, Unclosed, Unopened, Unprinted}
use Rattle.command_runs.specs.declared.running.Asked.{Asked}

-- ---- why nothing comes of it

-- a call is refused; or one that the command makes is not answered, for want of memory or room
abbrev pub MayNotDo : Caller → Asking (List ℕ) → Pages → CommandError → Type 0
MayNotDo c Is content (Refused e) = (t : State) × Is (Err (Refuses e)) t
MayNotDo c Is content (Unanswered fault) = IsUnanswered Is (MayLack content c fault)
MayNotDo c Is content NoMemory = ⊤
MayNotDo c Is content (Unopened fault) = ⊥
MayNotDo c Is content (Unprinted error) = ⊥
MayNotDo c Is content (Unclosed fault) = ⊥

-- ---- what comes of it

-- the text of the command, and a session that holds the system that it leaves, on as many pages as the file has, which
-- are those that it counts as saved
pub record IsAsked (Is : Asking (List ℕ)) (content : Pages) (asked : Asked) : Type 0 where
  pub system : State
  pub is : Is (Ok asked.text) system
  pub holds : Holds system asked.session
  pub pages : pages_of asked.session ≡ length content
  pub saved : saved_of asked.session ≡ content

abbrev pub ComesTo : Caller → Asking (List ℕ) → Pages → Result Asked CommandError → Type 0
ComesTo c Is content (Ok asked) = IsAsked Is content asked
ComesTo c Is content (Err error) = MayNotDo c Is content error

-- of the one system whose file it is
pub record AsksFrom (c : Caller) (r : Request) (content : Pages) (came : Result Asked CommandError) : Type 0 where
  pub system : State
  pub file : IsFileOf sha_key content system
  pub comes : ComesTo c (AsksAs c r system) content came

-- a file is refused by the first thing that is wrong with it, unless there is no memory
pub record IsRefused (content : Pages) (came : Result Asked CommandError) : Type 0 where
  pub fault : OpenFault
  pub told : came ≡ Err (Unopened fault)
  pub may : MayNotOpen content fault

abbrev pub AsksFile : Caller → Request → Pages → Result Asked CommandError → Type 0
AsksFile c r content came = AsksFrom c r content came ⊎ IsRefused content came
