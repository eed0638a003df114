-- The lines of a script together. docs/SCRIPTS.md, "Scripts".
use Rattle.std.specs.Prelude.{◌≡◌, ℕ, ◌+◌, ◌==◌, ◌&&◌, max, not, Bool, List, [], ◌∷◌, ◌++◌, length, Option, Some, None, Result, Ok, Err, ⊤, if◌then◌else◌}
use Rattle.std.specs.List.{All, list_any, find, fold}
use Rattle.queue_model.specs.declared.caller.Caller.{Caller}
use Rattle.msgq_cli.specs.Lines.{lines_of, content_of}
use Rattle.schedules.specs.Reading.{◌>>=◌}
use Rattle.msgq_cli.specs.declared.line.Content.{Content}
use Rattle.msgq_cli.specs.declared.line.Content.TheVariants as content
use Rattle.msgq_cli.specs.declared.line.Line.{Line}
use Rattle.msgq_cli.specs.declared.line.SeatIds.{SeatIds}
use Rattle.schedules.specs.Numbers.{IsSeat}
use Rattle.msgq_cli.specs.declared.script.ScriptError.{ScriptError}
use Rattle.msgq_cli.specs.declared.script.ScriptError.TheVariants.{WrongLine, NoMemory}

-- the `ids` lines of a script and the lines with commands, each in order
pub record Parts : Type 0 where
  pub ids : List SeatIds
  pub lines : List Line

-- an `ids` line is that of a seat
abbrev pub is_of_seat : ℕ → SeatIds → Bool
is_of_seat seat ids = ids.seat == seat

-- one line more: an `ids` line stands before all commands, and each seat has at most one
abbrev pub with_content : Parts → Content → Option Parts
with_content s content.Nothing = Some s
with_content s (content.Ids ids) =
    if length s.lines == 0 && not (list_any (is_of_seat ids.seat) s.ids)
    then Some (record s { ids = s.ids ++ ids ∷ [] })
    else None
with_content s (content.Line line) = Some (record s { lines = s.lines ++ line ∷ [] })

-- one line more, as bytes with its end
abbrev pub with_line : ℕ → Parts → List ℕ → Option Parts
with_line number s line = do
  said ← content_of number line
  with_content s said

-- the reading goes on behind a line of this number, or ends at it
abbrev pub or_wrong : ℕ → Option Parts → (Parts → Result Parts ℕ) → Result Parts ℕ
or_wrong number None read_on = Err number
or_wrong number (Some s) read_on = read_on s

-- the script of these lines, the first of which has this number, behind s; or the number of the first wrong line
abbrev pub script_from : ℕ → Parts → List (List ℕ) → Result Parts ℕ
script_from number s [] = Ok s
script_from number s (line ∷ lines) = or_wrong number (with_line number s line) (λ t. script_from (number + 1) t lines)

-- the script with no lines
abbrev pub empty_script : Parts
empty_script = record { ids = []; lines = [] }

-- the script that the bytes spell, or the number of the first wrong line
abbrev pub script_of : List ℕ → Result Parts ℕ
script_of bytes = script_from 1 empty_script (lines_of bytes)

-- a reader answers what the grammar gives, unless memory runs out
abbrev pub Reads : Result Parts ScriptError → Result Parts ℕ → Type 0
Reads (Ok s) given = given ≡ Ok s
Reads (Err (WrongLine line mistake)) given = given ≡ Err line
Reads (Err NoMemory) given = ⊤

-- the process of a seat, with the ids of a line or 0 and 0
abbrev pub caller_with : ℕ → Option SeatIds → Caller
caller_with seat None = record { pid = seat; uid = 0; gid = 0 }
caller_with seat (Some ids) = record { pid = seat; uid = ids.uid; gid = ids.gid }

-- who sits at a seat: the process of the seat's number, with the ids of its `ids` line
abbrev pub caller_of : ℕ → List SeatIds → Caller
caller_of seat ids = caller_with seat (find (is_of_seat seat) ids)

-- the greatest seat with a command, or 1
abbrev pub greatest_seat : List Line → ℕ
greatest_seat lines = fold (λ greatest line. max greatest line.seat) 1 lines

-- what is true of every script that was read
pub record IsSound (s : Parts) : Type 0 where
  pub seats : All (λ (line : Line). IsSeat line.seat) s.lines
  pub seats_of_ids : All (λ (ids : SeatIds). IsSeat ids.seat) s.ids
