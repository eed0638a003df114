-- Desks: the seats of a service, each with its lines of a script. docs/SCRIPTS.md, "Runs".
use Rattle.std.specs.Prelude.{ℕ, ◌≡◌, ◌+◌, ◌<◌, ◌≤◌, Bool, true, IsTrue, List, [], length, replicate, slice_index_or}
use Rattle.std.specs.List.{list_any}
use Rattle.bucket_page.specs.declared.pseudokey.ShaKey.{ShaKey}
use Rattle.msgq_cli.specs.Scripts.{Parts, greatest_seat}
use Rattle.msgq_cli.specs.declared.line.Line.{Line}
use Rattle.msgq_cli.specs.declared.reply.Reply.{Reply}
use Rattle.replays.specs.Replays.{callers_of}
use Rattle.queue_model.specs.declared.call.Call.{Call}
use Rattle.workers.specs.Causes.{HadToInsert}
use Rattle.workers.specs.Origins.{Origin}
use Rattle.workers.specs.Views.{nobody}
use Rattle.workers.specs.Opening.{PreparedView}
use Rattle.workers.specs.Told.{SeesFull, Sitter}
use Rattle.service_runs.specs.Lines.{HasMade, LinesView, is_failure, is_session_full}
use Rattle.service_runs.specs.declared.opening.Plan.{Plan}

-- ---- before the file is opened

abbrev pub no_lines : LinesView
no_lines = record { seat = 0; lines = []; replies = [] }

-- the lines of the seat at a place
abbrev pub lines_at : List LinesView → ℕ → LinesView
lines_at seats place = slice_index_or seats place no_lines

-- those of a seat, none of which is made
pub record AreUnmade (lines : List Line) (seat : ℕ) (s : LinesView) : Type 0 where
  pub seat_is : s.seat ≡ seat
  pub lines_are : s.lines ≡ lines
  pub unmade : s.replies ≡ []

-- those of so many seats from 1 on
pub record AreFresh (lines : List Line) (many : ℕ) (seats : List LinesView) : Type 0 where
  pub as_many : length seats ≡ many
  pub each : (place : ℕ) → place < many → AreUnmade lines (place + 1) (lines_at seats place)

-- what is taken for a script: its seats' lines, of which none is made, and no reply is printed
pub record IsPlanOf (script : Parts) (p : Plan) : Type 0 where
  pub script_is : p.script.now ≡ script
  pub seats : AreFresh script.lines (greatest_seat script.lines) p.seats.items
  pub printed : p.printed.items ≡ replicate (greatest_seat script.lines) 0

-- a file with these pages is opened for the seats of a script
pub record IsPreparedFor (script : Parts) (content : List (List ℕ)) (honest : Bool) (p : PreparedView ShaKey) : Type 0
  where
    pub content_is : p.content ≡ content
    pub honest_is : p.honest ≡ honest
    pub callers_are : p.callers ≡ callers_of script.ids (greatest_seat script.lines)
    -- there are as many seats as the script has
    pub many : length p.callers ≡ greatest_seat script.lines
    -- and there is a frame for each page
    pub enough : length p.content ≤ p.frames

-- ---- desks

-- who sits at a desk, and the lines that lie there
pub record DeskView : Type 0 where
  pub sitter : Sitter
  pub lines : LinesView

abbrev pub no_desk : DeskView
no_desk = record { sitter = nobody; lines = no_lines }

abbrev pub desk_at : List DeskView → ℕ → DeskView
desk_at desks place = slice_index_or desks place no_desk

-- nobody has begun there
pub record IsFresh (d : DeskView) : Type 0 where
  pub list : d.sitter.list ≡ []
  pub unmade : d.lines.replies ≡ []

-- so it is at each of these desks
abbrev pub AreUntouched : List DeskView → Type 0
AreUntouched desks = (place : ℕ) → place < length desks → IsFresh (desk_at desks place)

-- of an honest device a call is told that there is no room only where it had something to insert
abbrev pub MayLackRoom : Origin → Call → Type 0
MayLackRoom o call = IsTrue o.honest → HadToInsert o call

-- one of so many seats knows why it was replied so: that a step has failed, or that the session is full
pub record KnowsWhy (many : ℕ) (replies : List Reply) (x : Sitter) : Type 0 where
  pub failed : list_any is_failure replies ≡ true → x.failed ≡ true
  pub full : list_any is_session_full replies ≡ true → SeesFull many x

-- at a desk of a service that began so the lines were made, or refused
pub record IsMadeOf (o : Origin) (old new : DeskView) : Type 0 where
  pub seat : new.lines.seat ≡ old.lines.seat
  pub lines_are : new.lines.lines ≡ old.lines.lines
  pub at_seat : new.sitter.seat ≡ new.lines.seat
  pub made : HasMade (MayLackRoom o) new.lines new.sitter.list
  pub knows : KnowsWhy (length o.callers) new.lines.replies new.sitter

-- so at each of these desks
pub record AreMade (o : Origin) (old new : List DeskView) : Type 0 where
  pub as_many : length new ≡ length old
  pub each : (place : ℕ) → place < length old → IsMadeOf o (desk_at old place) (desk_at new place)

-- at each desk is a seat with its lines
pub record ArePaired (seats : List Sitter) (lines : List LinesView) (desks : List DeskView) : Type 0 where
  pub as_many : length desks ≡ length seats
  pub sitter : (place : ℕ) → place < length desks → (desk_at desks place).sitter ≡ slice_index_or seats place nobody
  pub lines_are : (place : ℕ) → place < length desks → (desk_at desks place).lines ≡ lines_at lines place
