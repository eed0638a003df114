-- The cells of a table, and its rows. docs/SHELL.md, "Tables".
use Rattle.std.specs.Prelude.{ℕ, ◌/◌, ◌%◌, ◌&&◌, nat_le, List, [], ◌∷◌, ◌++◌, map, take, codes, Option, Some, None, if◌then◌else◌}
use Rattle.std.specs.Fmt.{decimal, signed_decimal}
use Rattle.queue_commands.specs.declared.cell.Cell.{Cell}
use Rattle.queue_commands.specs.declared.cell.Cell.TheVariants.{Text, Number, Signed, Key, Mode, Messages, Body}
use Rattle.queue_commands.specs.declared.cell.TheConstants.{PREVIEW_BYTES}

-- a tab (9) before each
abbrev pub tabbed : List (List ℕ) → List ℕ
tabbed [] = []
tabbed (word ∷ words) = 9 ∷ word ++ tabbed words

-- a tab between each two, and an LF (10) behind them
abbrev pub row_text : List (List ℕ) → List ℕ
row_text [] = 10 ∷ []
row_text (word ∷ words) = word ++ tabbed words ++ 10 ∷ []

-- a key, or `private` where there is none
abbrev pub key_text : Option ℕ → List ℕ
key_text None = codes "private"
key_text (Some key) = decimal key

-- nine bits as three octal digits
abbrev pub mode_text : ℕ → List ℕ
mode_text mode = decimal (mode / 64 % 8) ++ decimal (mode / 8 % 8) ++ decimal (mode % 8)

-- a printable byte of ASCII as it is, and a dot (46) for any other
abbrev pub printable : ℕ → ℕ
printable byte = if nat_le 32 byte && nat_le byte 126 then byte else 46

-- the first bytes of a body
abbrev pub preview : List ℕ → List ℕ
preview body = map printable (take PREVIEW_BYTES body)

-- what stands in a cell
abbrev pub cell_text : Cell → List ℕ
cell_text (Text text) = text.now
cell_text (Number number) = decimal number
cell_text (Signed number) = signed_decimal number
cell_text (Key key) = key_text key
cell_text (Mode mode) = mode_text mode
cell_text (Messages number) = codes "messages: " ++ decimal number
cell_text (Body body) = preview body.now
