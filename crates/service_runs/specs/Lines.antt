-- The lines of one seat, and what they were replied. docs/SCRIPTS.md, "Runs".
use Rattle.std.specs.Prelude.{ℕ, ◌≡◌, ◌⊎◌, ◌≤◌, ◌==◌, Bool, false, true, List, [], ◌∷◌, Some, filter, if◌then◌else◌, length, map, ⊤}
use Rattle.std.specs.List.{list_any}
use Rattle.numbers.specs.declared.faults.TheConstants.{FAILED, NO_MEMORY, NO_ROOM, SESSION_FULL}
use Rattle.msgq_cli.specs.declared.command.Command.{Command}
use Rattle.msgq_cli.specs.declared.command.Command.TheVariants as commands
use Rattle.msgq_cli.specs.declared.line.Line.{Line}
use Rattle.msgq_cli.specs.declared.reply.Reply.{Reply}
use Rattle.msgq_cli.specs.declared.reply.Reply.TheVariants.{Answered, Failed, Stopped}
use Rattle.queue_model.specs.declared.call.Call.{Call}
use Rattle.queue_model.specs.declared.entry.Entry.{Entry}
use Rattle.workers.specs.Closing.{IsMarked}
use Rattle.replays.specs.Journal.{entries_at}

abbrev pub is_line_of : ℕ → Line → Bool
is_line_of seat line = line.seat == seat

-- the lines of a seat, in their order
abbrev pub lines_of : ℕ → List Line → List Line
lines_of seat lines = filter (is_line_of seat) lines

-- of the replies to all lines, those to the lines of a seat
abbrev pub replies_to : ℕ → List Line → List Reply → List Reply
replies_to seat (line ∷ lines) (reply ∷ replies) =
    if is_line_of seat line then reply ∷ replies_to seat lines replies else replies_to seat lines replies
replies_to seat lines replies = []

-- the entries of lines that were replied so: one for each that was answered
abbrev pub entries_to : List Line → List Reply → List Entry
entries_to lines replies = entries_at lines (map Some replies)

-- why a call is not answered: there is no room, which is so of some calls only, or no memory, the session is full, or
-- a step has failed
abbrev pub IsOfCall : (MayLack : Call → Type 0) → Call → ℕ → Type 0
IsOfCall MayLack call fault =
    ((fault ≡ NO_ROOM) × MayLack call) ⊎ (fault ≡ NO_MEMORY) ⊎ (fault ≡ SESSION_FULL) ⊎ (fault ≡ FAILED)

-- what a command may be replied: a stop is made, or lacks memory; a call is answered, or is told why it is not
abbrev pub Fits : (MayLack : Call → Type 0) → Command → Reply → Type 0
Fits MayLack commands.Stop Stopped = ⊤
Fits MayLack commands.Stop (Answered answer) = ⊥
Fits MayLack commands.Stop (Failed fault) = fault ≡ NO_MEMORY
Fits MayLack (commands.Call call) Stopped = ⊥
Fits MayLack (commands.Call call) (Answered answer) = ⊤
Fits MayLack (commands.Call call) (Failed fault) = IsOfCall MayLack call fault

-- it was replied that a step has failed
abbrev pub is_failure : Reply → Bool
is_failure (Failed fault) = fault == FAILED
is_failure reply = false

-- or that the session is full
abbrev pub is_session_full : Reply → Bool
is_session_full (Failed fault) = fault == SESSION_FULL
is_session_full reply = false

-- or that a stop is made
abbrev pub is_stopped : Reply → Bool
is_stopped Stopped = true
is_stopped reply = false

abbrev pub is_no_call : Command → Bool
is_no_call commands.Stop = true
is_no_call (commands.Call call) = false

abbrev pub is_stop : Line → Bool
is_stop line = is_no_call line.command

-- so each of these lines was replied
abbrev pub AreFitting : (MayLack : Call → Type 0) → List Line → List Reply → Type 0
AreFitting MayLack (line ∷ lines) (reply ∷ replies) = Fits MayLack line.command reply × AreFitting MayLack lines replies
AreFitting MayLack lines replies = ⊤

-- a stop stands in the journal once where a line was replied that it is made, and never where no line is one
pub record Marks (lines : List Line) (replies : List Reply) (journal : List Entry) : Type 0 where
  pub stopped : Bool
  pub mark : IsMarked stopped journal
  pub made : list_any is_stopped replies ≡ true → stopped ≡ true
  pub none : list_any is_stop lines ≡ false → stopped ≡ false

-- a seat, the lines of a script, and what those of the seat that were made were replied
pub record LinesView : Type 0 where
  pub seat : ℕ
  pub lines : List Line
  pub replies : List Reply

-- there is room for the replies to all of them
pub record HasRoom (seat : ℕ) (lines : List Line) (replies : List Reply) (room : ℕ) : Type 0 where
  pub few : length replies ≤ length (lines_of seat lines)
  pub fits : length (lines_of seat lines) ≤ room

-- all of them were made, and the seat was told these entries
pub record HasMade (MayLack : Call → Type 0) (s : LinesView) (list : List Entry) : Type 0 where
  pub all : length s.replies ≡ length (lines_of s.seat s.lines)
  pub fits : AreFitting MayLack (lines_of s.seat s.lines) s.replies
  pub told : list ≡ entries_to (lines_of s.seat s.lines) s.replies
