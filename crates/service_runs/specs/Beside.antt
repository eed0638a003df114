-- A script whose seats made their lines beside one another, on the file of a device. docs/SCRIPTS.md, "Runs".
use Rattle.std.specs.Prelude.{ℕ, ◌≡◌, ◌≢◌, ◌⊎◌, ◌≤◌, ◌+◌, ◌==◌, Bool, true, false, IsTrue, List, [], ◌++◌, length, Option, Some, None}
use Rattle.std.specs.List.{list_all, list_any}
use Rattle.numbers.specs.declared.faults.TheConstants.{DEVICE, FAILED}
use Rattle.page_device.specs.Device.{HasRisen}
use Rattle.interleavings.specs.interleaving_core.declared.kernel.TheConstants.{MAX_DECIDED}
use Rattle.bucket_page.specs.Pseudokeys.{sha_key}
use Rattle.msgq_cli.specs.Outputs.{OutputState, Prints}
use Rattle.msgq_cli.specs.Runs.{ending_of, printed}
use Rattle.msgq_cli.specs.Scripts.{Parts, greatest_seat}
use Rattle.msgq_cli.specs.declared.ending.Ending.{Ending}
use Rattle.msgq_cli.specs.declared.line.Line.{Line}
use Rattle.msgq_cli.specs.declared.reply.Reply.{Reply}
use Rattle.queue_model.specs.Journal.{part_of}
use Rattle.queue_model.specs.declared.call.Call.{Call}
use Rattle.queue_model.specs.declared.entry.Entry.{Entry}
use Rattle.replays.specs.Replays.{EndsWith, callers_of}
use Rattle.replays.specs.Texts.{Effects, IsUnopened}
use Rattle.workers.specs.Causes.{HadToInsert}
use Rattle.workers.specs.Closing.{Each, IsMarked, Remains}
use Rattle.workers.specs.Origins.{HasFrames, IsJournalOf, LeavesFile, Origin}
use Rattle.workers.specs.Told.{Sitter}
use Rattle.service_runs.specs.Lines.{AreFitting, Marks, entries_to, is_failure, is_session_full}

-- ---- what is told

-- what the lines of a seat were answered, in their order
abbrev pub told_to : ℕ → List Line → List Reply → List Entry
told_to seat lines replies = part_of seat (entries_to lines replies)

-- what a seat was told is its part of a journal, in order, each entry once; where a step has failed the part may have
-- one entry more, of a call that was decided and whose seat was told of the failure
pub record IsPart (fault : Option ℕ) (journal : List Entry) (seat : ℕ) (told : List Entry) : Type 0 where
  pub more : List Entry
  pub part : part_of seat journal ≡ told ++ more
  pub one : length more ≤ 1
  pub exact : fault ≢ Some FAILED → more ≡ []

-- ---- how a service ends

-- why a fault is told, where so many transfers had failed before, and have failed then
pub record HasReason (honest : Bool) (old new : ℕ) (fault : Option ℕ) : Type 0 where
  pub device : fault ≡ Some DEVICE → HasRisen old new
  -- of an honest device a step has failed only where a transfer did
  pub step : IsTrue honest → fault ≡ Some FAILED → HasRisen old new

-- it was closed, or let go where the output refused a write, and a fault is to be told or none; its stopper was used or
-- not
pub record HasEnded (o : Origin) (given : List Sitter) (used untold : Bool) (fault : Option ℕ) (left : Remains)
    : Type 0 where
  -- the answers are those of plain lists
  pub plain : IsTrue o.honest → IsJournalOf o left.journal
  pub mark : IsMarked used left.journal
  pub honest : left.honest ≡ o.honest
  pub parts : Each (λ (x : Sitter). IsPart fault left.journal x.seat x.list) given
  -- the file is that of the system after them
  pub kept : untold ≡ false → fault ≡ None → IsTrue o.honest → LeavesFile o left.journal left.content
  -- and is synced
  pub synced : untold ≡ false → fault ≡ None → IsTrue o.honest → IsTrue left.synced
  -- where a step has failed or the answers can't be told nothing was written: where there is a frame for each page
  -- the device has those of before
  pub before : (untold ≡ true) ⊎ (fault ≡ Some FAILED) → HasFrames o → left.content ≡ o.content
  -- else the last transfers failed
  pub number : (n : ℕ) → fault ≡ Some n → (n ≡ DEVICE) ⊎ (n ≡ FAILED)
  -- a seat that knows of a failure makes it told
  pub failed : Each (λ (x : Sitter). x.failed ≡ true → fault ≡ Some FAILED) given
  -- no seat was shown more calls than the journal has entries
  pub shown : Each (λ (x : Sitter). x.seen ≤ length left.journal) given
  pub reason : HasReason o.honest o.faults left.faults fault

-- ---- a run

-- from the pages of a device, with a frame for each
abbrev pub origin_on : Parts → (honest : Bool) → Effects → Origin
origin_on script honest c = record {
  content = c.content;
  honest = honest;
  faults = c.was;
  frames = length c.content;
  hash = sha_key;
  callers = callers_of script.ids (greatest_seat script.lines);
}

-- from there, where so many transfers had failed before, with a frame for each page
abbrev pub counted_from : ℕ → Origin → Origin
counted_from was o = record o { faults = was; frames = length o.content }

-- the lines of all seats were made, their replies were printed in the order of the script and handed on, and only then
-- the file was written; a fault is printed after the replies, or none. Of an honest device their journal is so, and so
-- are the pages that it leaves, and the calls that found no room
pub record RunsBesideBy (IsJournal : List Entry → Type 0) (Leaves : List Entry → List (List ℕ) → Type 0)
    (MayLack : Call → Type 0) (script : Parts) (honest : Bool) (c : Effects) (ending : Ending) : Type 0 where
  pub replies : List Reply
  pub as_many : length replies ≡ length script.lines
  -- a stop as a stop, a call by its answer or by why it has none
  pub fits : AreFitting (λ call. IsTrue honest → MayLack call) script.lines replies
  pub journal : List Entry
  pub fault : Option ℕ
  pub plain : IsTrue honest → IsJournal journal
  pub mark : Marks script.lines replies journal
  -- each seat was told its own part
  pub parts : (seat : ℕ) → 1 ≤ seat → seat ≤ greatest_seat script.lines →
      IsPart fault journal seat (told_to seat script.lines replies)
  pub told : OutputState
  pub prints : Prints c.old told (printed script.lines replies)
  -- the output refused a write, or all has come to the writer
  pub untold : c.untold ≡ told.refused
  pub handed : c.untold ≡ false → told.handed ≡ told.known
  pub kept : c.untold ≡ false → fault ≡ None → IsTrue honest → Leaves journal c.left
  pub synced : c.untold ≡ false → fault ≡ None → IsTrue honest → IsTrue c.synced
  -- what can't be told has not happened, nor where a step has failed: the pages are those of before
  pub before : (c.untold ≡ true) ⊎ (fault ≡ Some FAILED) → c.left ≡ c.content
  pub number : (n : ℕ) → fault ≡ Some n → (n ≡ DEVICE) ⊎ (n ≡ FAILED)
  -- a line is replied 62 only where that is told
  pub failed : list_any is_failure replies ≡ true → fault ≡ Some FAILED
  -- and 61 only where the entries, and one call at each seat, are as many as a session decides
  pub full : list_any is_session_full replies ≡ true → MAX_DECIDED ≤ length journal + greatest_seat script.lines
  pub reason : HasReason honest c.was c.faults fault
  pub ends : EndsWith fault told (ending_of replies) c.new ending

-- from the file of a system
abbrev pub RunsBeside : Parts → Origin → Effects → Ending → Type 0
RunsBeside script o c ending = RunsBesideBy (IsJournalOf o) (LeavesFile o) (HadToInsert o) script o.honest c ending

-- or the file is not opened
abbrev pub RunsFrom : Parts → Origin → Effects → Ending → Type 0
RunsFrom script o c ending = RunsBeside script o c ending ⊎ IsUnopened o.honest c ending

abbrev pub RunsBesideOn : Parts → (honest : Bool) → Effects → Ending → Type 0
RunsBesideOn script honest c ending = RunsFrom script (origin_on script honest c) c ending

-- all of its lines are of one seat
abbrev pub is_of_one_seat : List Line → Bool
is_of_one_seat lines = list_all (λ (line : Line). line.seat == greatest_seat lines) lines
