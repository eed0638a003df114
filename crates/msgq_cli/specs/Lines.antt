-- What a line says by itself. docs/SCRIPTS.md, "Lines and words".
use Rattle.std.specs.Prelude.{ℕ, ◌-◌, ◌==◌, nat_lt, List, [], ◌∷◌, length, take, slice_index, codes, Option, Some, None, ⊤, if◌then◌else◌}
use Rattle.std.specs.List.{list_all, onto_first}
use Rattle.std.specs.Str.{bytes_eq}
use Rattle.std.specs.Str.Lines.{strip_carriage_return}
use Rattle.msgq_cli.specs.Commands.{command_of}
use Rattle.msgq_cli.specs.Unread.{next, alone}
use Rattle.schedules.specs.Numbers.{IsSeat, number_of, seat_of}
use Rattle.schedules.specs.Reading.{◌>>=◌}
use Rattle.schedules.specs.Words.{words_of}
use Rattle.msgq_cli.specs.declared.line.Content.{Content}
use Rattle.msgq_cli.specs.declared.line.Content.TheVariants as content

-- the seat of what is said, if it has one
abbrev pub HasSeat : Content → Type 0
HasSeat content.Nothing = ⊤
HasSeat (content.Ids ids) = IsSeat ids.seat
HasSeat (content.Line line) = IsSeat line.seat

-- the lines of a text, each with the LF (10) that ends it; the last may lack it
abbrev pub lines_of : List ℕ → List (List ℕ)
lines_of [] = []
lines_of (byte ∷ rest) = if byte == 10 then (byte ∷ []) ∷ lines_of rest else onto_first byte (lines_of rest)

-- the last byte of a line that is not empty
abbrev pub last_byte : List ℕ → ℕ
last_byte line = slice_index line (length line - 1)

-- a line without its end, LF or CR LF; where the script ends in a CR (13), its last line is wrong
abbrev pub text_of : List ℕ → Option (List ℕ)
text_of line =
    if last_byte line == 10 then Some (strip_carriage_return (take (length line - 1) line))
    else if last_byte line == 13 then None
    else Some line

-- `ids SEAT UID GID`, without the first word
abbrev pub ids_of : List (List ℕ) → Option Content
ids_of words = do
  seat ← next seat_of words
  uid ← next number_of seat.1
  gid ← next number_of uid.1
  alone (content.Ids (record { seat = seat.0; uid = uid.0; gid = gid.0 })) gid.1

-- a seat's command, whose moment is the line's number
abbrev pub entry_of : ℕ → List ℕ → List (List ℕ) → Option Content
entry_of number seat words = do
  s ← seat_of seat
  c ← command_of number words
  Some (content.Line (record { number = number; seat = s; command = c }))

-- what the words of the line of a number say
abbrev pub worded : ℕ → List (List ℕ) → Option Content
worded number [] = None
worded number (first ∷ words) = if bytes_eq first (codes "ids") then ids_of words else entry_of number first words

-- an empty line and a comment behind `#` (35) say nothing; a line of blanks alone has no words
abbrev pub said_by : ℕ → List ℕ → Option Content
said_by number [] = Some content.Nothing
said_by number (byte ∷ bytes) = if byte == 35 then Some content.Nothing else worded number (words_of (byte ∷ bytes))

-- what the line of a number says; ASCII alone may stand in it
abbrev pub content_of : ℕ → List ℕ → Option Content
content_of number line = do
  text ← text_of line
  if list_all (λ byte. nat_lt byte 128) text then said_by number text else None
