-- What a script of several seats comes to that is run on a file, down to the bytes of its pages: in the place of what a
-- check tells of them stands what they mean. docs/SCRIPTS.md, "Runs"; docs/FORMAT.md, "Pages", "Records".
use Rattle.std.specs.Prelude.{◌≡◌, ℕ, List, Some, length}
use Rattle.interleavings.specs.LoneKernelWords.{Answer, Call, Caller, State, outcome, restarted}
use Rattle.interleavings.specs.files_at_rest.Spelled.{SpellsSystem}
use Rattle.queue_model.specs.Journal.{LeadsAlong}
use Rattle.queue_model.specs.Rules.{AddsTo}
use Rattle.queue_model.specs.declared.entry.Entry.{Entry}
use Rattle.msgq_cli.specs.Scripts.{Parts, greatest_seat}
use Rattle.replays.specs.Replays.{callers_of}

-- a journal that leads by the rules from the one system that these pages spell
pub record IsSpelledJournal (script : Parts) (content : List (List ℕ)) (journal : List Entry) : Type 0 where
  pub base : State
  pub pages : SpellsSystem content base
  -- to this one
  pub now : State
  pub leads : LeadsAlong (callers_of script.ids (greatest_seat script.lines)) journal base now

-- and those spell the system after it
pub record LeavesSpelled (script : Parts) (content : List (List ℕ)) (journal : List Entry) (left : List (List ℕ)) :
    Type 0 where
  pub plain : IsSpelledJournal script content journal
  pub pages : SpellsSystem left (restarted plain.now)
  -- they are as many
  pub many : length left ≡ length content

-- a call had something to insert: behind such a journal it is answered something new, the next id or a message, if its
-- caller may make it
pub record HadToAdd (script : Parts) (content : List (List ℕ)) (call : Call) : Type 0 where
  pub journal : List Entry
  pub plain : IsSpelledJournal script content journal
  pub caller : Caller
  pub answer : Answer
  pub then : State
  pub comes : outcome caller call plain.now ≡ Some (answer, then)
  pub adds : AddsTo plain.now answer
