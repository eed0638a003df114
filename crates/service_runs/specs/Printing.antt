-- The replies of all seats, printed in the order of the script. docs/SCRIPTS.md, "Runs".
use Rattle.std.specs.Prelude.{ℕ, ◌≡◌, ◌+◌, ◌≤◌, ◌<◌, Bool, List, length}
use Rattle.std.specs.List.{All, list_any}
use Rattle.msgq_cli.specs.Outputs.{OutputState, Prints}
use Rattle.msgq_cli.specs.Runs.{ending_of, printed}
use Rattle.msgq_cli.specs.declared.ending.Ending.{Ending}
use Rattle.msgq_cli.specs.declared.line.Line.{Line}
use Rattle.msgq_cli.specs.declared.reply.Reply.{Reply}
use Rattle.service_runs.specs.Desks.{DeskView, desk_at}
use Rattle.service_runs.specs.Lines.{LinesView, is_stopped, lines_of, replies_to}

-- at a place lie the lines of the seat after it, each of which was replied
pub record HasAll (lines : List Line) (place : ℕ) (s : LinesView) : Type 0 where
  pub seat : s.seat ≡ place + 1
  pub lines_are : s.lines ≡ lines
  pub all : length s.replies ≡ length (lines_of (place + 1) lines)

-- each line of a script lies at one of these desks, and was replied
pub record AreOfSeats (lines : List Line) (desks : List DeskView) : Type 0 where
  pub within : All (λ (line : Line). (1 ≤ line.seat) × (line.seat ≤ length desks)) lines
  pub each : (place : ℕ) → place < length desks → HasAll lines place (desk_at desks place).lines

-- a reply to each line was printed, in the order of the script; those to the lines of a seat are its replies, in order
pub record IsPrintedOf (lines : List Line) (desks : List DeskView) (old new : OutputState) (ending : Ending)
    (has_stopped : Bool) : Type 0 where
  pub replies : List Reply
  pub as_many : length replies ≡ length lines
  pub own : (place : ℕ) → place < length desks →
      replies_to (place + 1) lines replies ≡ (desk_at desks place).lines.replies
  pub prints : Prints old new (printed lines replies)
  pub ends : ending ≡ ending_of replies
  -- one of them says that a stop is made
  pub stops : has_stopped ≡ list_any is_stopped replies
