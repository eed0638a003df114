-- What lines were answered, beside the journal of their kernel. docs/QUEUES.md, "Journals".
use Rattle.std.specs.Prelude.{ℕ, ◌≡◌, IsSome, false, List, [], ◌∷◌, ◌++◌, Option, Some, None, length, slice_get}
use Rattle.queue_model.specs.Journal.{part_of}
use Rattle.queue_model.specs.declared.answer.Answer.{Answer}
use Rattle.queue_model.specs.declared.call.Call.{Call}
use Rattle.queue_model.specs.declared.entry.Entry.{Entry}
use Rattle.interleavings.specs.interleaving_core.Kernel.{call_at}
use Rattle.interleavings.specs.interleaving_core.Owing.{call_of, entry_of, untold}
use Rattle.msgq_cli.specs.declared.command.Command.{Command}
use Rattle.msgq_cli.specs.declared.command.Command.TheVariants as commands
use Rattle.msgq_cli.specs.declared.line.Line.{Line}
use Rattle.msgq_cli.specs.declared.reply.Reply.{Reply}
use Rattle.msgq_cli.specs.declared.reply.Reply.TheVariants.{Answered, Failed, Stopped}
use Rattle.replays.specs.Events.{ReplayState, line_under_way}
use Rattle.replays.specs.Places.{IsSound}

-- ---- entries of lines

-- the call of a command
abbrev pub call_in : Command → Option Call
call_in commands.Stop = None
call_in (commands.Call call) = Some call

-- and of a line, where there is one
abbrev pub call_on : Option Line → Option Call
call_on None = None
call_on (Some line) = call_in line.command

-- the answer that a line was replied
abbrev pub answer_in : Option Reply → Option Answer
answer_in None = None
answer_in (Some (Answered answer)) = Some answer
answer_in (Some (Failed fault)) = None
answer_in (Some Stopped) = None

-- the entry of its call with that answer
abbrev pub entry_at : Line → Option Reply → List Entry
entry_at line reply = entry_of line.seat (call_in line.command) (answer_in reply)

-- those of all lines, in the order of the script
abbrev pub entries_at : List Line → List (Option Reply) → List Entry
entries_at [] replies = []
entries_at (line ∷ lines) [] = []
entries_at (line ∷ lines) (reply ∷ replies) = entry_at line reply ++ entries_at lines replies

-- ---- what is always so

-- what the lines of a seat were answered, in their order, is its part of the journal, each entry once; but for one
-- that it is still owed
abbrev pub IsToldItsPart : ℕ → ReplayState → Type 0
IsToldItsPart seat s = part_of seat s.kernel.journal ≡
    part_of seat (entries_at s.script.lines s.script.replies) ++ untold seat (call_at s.kernel.seats seat)

-- a call that a seat has while a line is under way is that of the line
abbrev pub HasCallOfLine : ℕ → ReplayState → Type 0
HasCallOfLine seat s = (place : ℕ) → line_under_way seat s ≡ Some place →
    IsSome (call_of (call_at s.kernel.seats seat)) →
    call_of (call_at s.kernel.seats seat) ≡ call_on (slice_get s.script.lines place)

-- an idle seat has no call, as long as no step has failed
abbrev pub IsFreeWhereIdle : ℕ → ReplayState → Type 0
IsFreeWhereIdle seat s = s.kernel.failed ≡ false → line_under_way seat s ≡ None → call_at s.kernel.seats seat ≡ None

pub record IsSoundReplay (s : ReplayState) : Type 0 where
  -- each seat of the kernel has a place in the script
  pub seats : length s.script.places ≡ length s.kernel.locks
  pub order : IsSound s.script
  pub calls : (seat : ℕ) → HasCallOfLine seat s
  pub free : (seat : ℕ) → IsFreeWhereIdle seat s
  pub told : (seat : ℕ) → IsToldItsPart seat s
